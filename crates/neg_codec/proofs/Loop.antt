-- Reading ranges one after the other, as a loop does.
use Rattle.std.proofs.Common.{◌≡◌, ℕ, zero, suc, ◌<◌, ◌≤◌, List, [], ◌∷◌, ◌++◌, length, Result, Ok, Err, refl, sym, ap, ◌∙◌, append_assoc, arith, add-one, cond, eqb, get_or, drop, take, map, Bool, true, false}
use Rattle.std.proofs.lemmas.List.{append-nil}
use Rattle.item_key.specs.declared.Item.{Item}
use Rattle.neg_codec.specs.declared.CodecFault.{CodecFault}
use Rattle.neg_codec.specs.declared.CodecFault.TheVariants as fault
use Rattle.neg_codec.specs.Ranges.{Span, span_of, Ascends}
use Rattle.neg_codec.specs.Reading.{◌>>=◌, Fails, Gives, ids_of, range_at, ranges_at, versioned_at, message_at, longest}
use Rattle.std.proofs.lemmas.Bool.{le-ltb, lt-ltb, eq-eqb, ne_eqb}
use Rattle.item_key.specs.Keys.{least}
use Rattle.std.specs.Prelude.{IfOk}
use Rattle.std.specs.Global.{Vec}
use Rattle.item_key.specs.declared.Id.{Id}
use Rattle.neg_codec.specs.declared.Range.{Range}
use Rattle.neg_codec.specs.Text.{Spells}
use Rattle.neg_codec.proofs.Takes.{IsBytes, done}
use Rattle.neg_codec.proofs.Messages.{message_takes, ascends_from}
use Rattle.neg_codec.proofs.Again.{message_again, ranges_step, ranges_end}

-- what was read before, and what is still read
abbrev pub with_front : List Span → Result (List Span) CodecFault → Result (List Span) CodecFault
with_front front read = read >>= λ rs. Ok (front ++ rs)

-- what is left is read with room for as many ranges as it has bytes, or more
pub record GoesOn (front : List Span) (total : ℕ) (lower : Item) (rest : List ℕ) (all : Result (List Span) CodecFault) : Type 0 where
  pub room : ℕ
  pub enough : length rest ≤ room
  pub reads : with_front front (ranges_at room total lower rest) ≡ all

regroup : (front : List Span) (r : Span) (read : Result (List Span) CodecFault) → with_front front (read >>= λ rs. Ok (r ∷ rs)) ≡ with_front (front ++ r ∷ []) read
regroup front r (Ok rs) = ap (λ (x : List Span). Ok x) (simp append_assoc)
regroup front r (Err f) = refl

pub begins : (total : ℕ) (lower : Item) (bytes : List ℕ) → GoesOn [] total lower bytes (ranges_at (length bytes) total lower bytes)
begins total lower bytes = record { room = length bytes; enough = omega arith; reads = same (ranges_at (length bytes) total lower bytes) }
  where
    same : (read : Result (List Span) CodecFault) → with_front [] read ≡ read
    same (Ok rs) = refl
    same (Err f) = refl

pub goes_on : (front : List Span) (total : ℕ) (lower : Item) (rest : List ℕ) (all : Result (List Span) CodecFault) (r : Span) (after : List ℕ)
    → length after < length rest → range_at total lower rest ≡ Ok (r, after) → GoesOn front total lower rest all → GoesOn (front ++ r ∷ []) total r.upper after all
goes_on front total lower rest all r after lt is g = go g.room g.enough g.reads
  where
    go : (n : ℕ) → length rest ≤ n → with_front front (ranges_at n total lower rest) ≡ all → GoesOn (front ++ r ∷ []) total r.upper after all
    go zero le e = absurd (omega arith)
    go (suc n) le e =
        let one : with_front front (ranges_at (suc n) total lower rest) ≡ with_front (front ++ r ∷ []) (ranges_at n total r.upper after) =
        rw (ranges_step n total lower rest (omega arith), is) (regroup front r (ranges_at n total r.upper after)) in
        record { room = n; enough = omega arith; reads = sym one ∙ e }

pub fails_on : {A B : Type 0} (f : CodecFault) (r : Result A CodecFault) (s : Result B CodecFault) → (r ≡ Err f → s ≡ Err f) → Fails f r → Fails f s
fails_on fault.Memory r s h k = tt
fails_on f r s h k = h k

pub ends : (f : CodecFault) (front : List Span) (total : ℕ) (lower : Item) (rest : List ℕ) (all : Result (List Span) CodecFault)
    → 0 < length rest → Fails f (range_at total lower rest) → GoesOn front total lower rest all → Fails f all
ends f front total lower rest all some fails g = fails_on f (range_at total lower rest) all (λ is. go g.room g.enough g.reads is) fails
  where
    go : (n : ℕ) → length rest ≤ n → with_front front (ranges_at n total lower rest) ≡ all → range_at total lower rest ≡ Err f → all ≡ Err f
    go zero le e is = absurd (omega arith)
    go (suc n) le e is =
        let one : with_front front (ranges_at (suc n) total lower rest) ≡ Err f = rw (ranges_step n total lower rest some, is) refl in
        sym e ∙ one

pub is_done : (front : List Span) (total : ℕ) (lower : Item) (all : Result (List Span) CodecFault) → GoesOn front total lower [] all → all ≡ Ok front
is_done front total lower all g = sym g.reads ∙ ap (with_front front) (ranges_end g.room total lower) ∙ ap (λ (x : List Span). Ok x) (append-nil front)

-- the first byte is the version
pub version_at : (bytes : List ℕ) → length bytes ≤ longest → 0 < length bytes → message_at bytes ≡ cond (eqb (get_or bytes 0 0) 0x61) (ranges_at (length (drop 1 bytes)) (length bytes) least (drop 1 bytes)) (Err (fault.Version (get_or bytes 0 0)))
unfolding message_at versioned_at
version_at [] le some = absurd (omega arith)
version_at (b ∷ bytes) le some = rw (le-ltb longest (length (b ∷ bytes)) le, add-one) refl

pub too_long : (bytes : List ℕ) → longest < length bytes → message_at bytes ≡ Err fault.TooLong
unfolding message_at
too_long bytes lt = rw (lt-ltb longest (length bytes) lt) refl

pub empty_at : (bytes : List ℕ) → length bytes ≡ 0 → message_at bytes ≡ Err fault.Empty
unfolding message_at versioned_at
empty_at [] e = refl
empty_at (b ∷ bytes) e = absurd (omega arith)

-- ---- ids

abbrev id_of_bytes : List ℕ → Id
id_of_bytes bytes = record { 0 = bytes }

pub ids_more : (front : List Id) (m n : ℕ) (rest id after : List ℕ) (all : List Id) → m ≡ suc n → id ≡ take 32 rest → after ≡ drop 32 rest
    → front ++ ids_of m rest ≡ all → (front ++ id_of_bytes id ∷ []) ++ ids_of n after ≡ all
ids_more front m n rest id after all e is back so_far =
    let one : front ++ ids_of m rest ≡ front ++ (id_of_bytes id ∷ ids_of n after) = rw (e, is, back) refl in
    append_assoc front (id_of_bytes id ∷ []) (ids_of n after) ∙ sym one ∙ so_far

-- ---- the message

pub is_found : (bytes : List ℕ) (r : Result (Vec Range) CodecFault) → IsBytes bytes → Gives (λ v. map span_of v.items) r (message_at bytes) → IfOk r (λ v. (length bytes ≤ longest) × Spells bytes (map span_of v.items))
is_found bytes (Ok v) fits given = message_takes bytes (map span_of v.items) fits given
is_found bytes (Err e) fits given = tt

pub is_ascending : (bytes : List ℕ) (rs : List Span) → IsBytes bytes → message_at bytes ≡ Ok rs → Ascends least rs
is_ascending bytes rs fits e = let m = message_takes bytes rs fits e in ascends_from least rs m.1.0 m.1.2

pub fault_only : (bytes : List ℕ) (f : CodecFault) (m : List Span) → length bytes ≤ longest → Spells bytes m → Fails f (message_at bytes) → Fails f (done m)
fault_only bytes f m le s fails = fails_on f (message_at bytes) (done m) (λ e. sym (message_again bytes m le s) ∙ e) fails

pub ok_only : (bytes : List ℕ) (rs m : List Span) → length bytes ≤ longest → Spells bytes m → message_at bytes ≡ Ok rs → done m ≡ done rs
ok_only bytes rs m le s e = sym (message_again bytes m le s) ∙ e

pub ranges_version : (bytes : List ℕ) → length bytes ≤ longest → 0 < length bytes → get_or bytes 0 0 ≡ 0x61 → message_at bytes ≡ ranges_at (length (drop 1 bytes)) (length bytes) least (drop 1 bytes)
ranges_version bytes le some e =
    let test : eqb (get_or bytes 0 0) 0x61 ≡ true = eq-eqb _ _ e in
    version_at bytes le some ∙ ap (λ (b : Bool). cond b (ranges_at (length (drop 1 bytes)) (length bytes) least (drop 1 bytes)) (Err (fault.Version (get_or bytes 0 0)))) test

-- ---- a scan, which keeps no ranges

pub record Scans (total : ℕ) (lower : Item) (rest : List ℕ) (all : Result (List Span) CodecFault) : Type 0 where
  pub front : List Span
  pub goes : GoesOn front total lower rest all

pub scan_begins : (total : ℕ) (lower : Item) (bytes : List ℕ) → Scans total lower bytes (ranges_at (length bytes) total lower bytes)
scan_begins total lower bytes = record { front = []; goes = begins total lower bytes }

pub scan_goes_on : (total : ℕ) (lower : Item) (rest : List ℕ) (all : Result (List Span) CodecFault) (r : Span) (after : List ℕ)
    → length after < length rest → range_at total lower rest ≡ Ok (r, after) → Scans total lower rest all → Scans total r.upper after all
scan_goes_on total lower rest all r after lt is s = record { front = s.front ++ r ∷ []; goes = goes_on s.front total lower rest all r after lt is s.goes }

pub scan_ends : (f : CodecFault) (total : ℕ) (lower : Item) (rest : List ℕ) (all : Result (List Span) CodecFault) → 0 < length rest → range_at total lower rest ≡ Err f → Scans total lower rest all → all ≡ Err f
scan_ends f total lower rest all some is s = go s.goes.room s.goes.enough s.goes.reads
  where
    go : (n : ℕ) → length rest ≤ n → with_front s.front (ranges_at n total lower rest) ≡ all → all ≡ Err f
    go zero le e = absurd (omega arith)
    go (suc n) le e =
        let one : with_front s.front (ranges_at (suc n) total lower rest) ≡ Err f = rw (ranges_step n total lower rest some, is) refl in
        sym e ∙ one

pub scan_done : (total : ℕ) (lower : Item) (all : Result (List Span) CodecFault) → Scans total lower [] all → (rs : List Span) × (all ≡ Ok rs)
scan_done total lower all s = (s.front, is_done s.front total lower all s.goes)

pub fails_from : {A : Type 0} (f : CodecFault) (r : Result A CodecFault) → r ≡ Err f → Fails f r
fails_from fault.Memory r e = tt
fails_from f r e = e

abbrev pub range_fault : CodecFault → Result (Vec Range) CodecFault
range_fault f = Err f

-- one fault, or none
pub same_fault : {A : Type 0} (r : Result A CodecFault) (f g : CodecFault) → r ≡ Err f → r ≡ Err g → range_fault f ≡ range_fault g
same_fault r f g e h = let k = sym e ∙ h in cc

pub no_fault : {A : Type 0} (r : Result A CodecFault) (x : A) (f : CodecFault) → r ≡ Ok x → r ≡ Err f → ⊥
no_fault r x f e h = let k = sym e ∙ h in cc

pub wrong_version : (bytes : List ℕ) → length bytes ≤ longest → 0 < length bytes → (get_or bytes 0 0 ≡ 0x61 → ⊥) → message_at bytes ≡ Err (fault.Version (get_or bytes 0 0))
wrong_version bytes le some h =
    let test : eqb (get_or bytes 0 0) 0x61 ≡ false = ne_eqb _ _ h in
    version_at bytes le some ∙ ap (λ (b : Bool). cond b (ranges_at (length (drop 1 bytes)) (length bytes) least (drop 1 bytes)) (Err (fault.Version (get_or bytes 0 0)))) test
