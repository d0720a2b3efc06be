-- What logs and media hold after one call and another.
use Rattle.std.proofs.Common.{◌≡◌, ℕ, ◌+◌, ◌≤◌, Bool, true, false, List, [], ◌∷◌, ◌++◌, length, take, drop, Option, None, Some, IfSome, slice_get, refl, sym, ap, subst, ◌∙◌, arith, append-nil, append_assoc, length-append, take-append-drop}
use Rattle.std.specs.Prelude.{Result, Ok, Err, IsErr, IfOk, OnErr}
use mathlib.Core.List.{IsPrefix}
use Rattle.std.proofs.lemmas.Grind.{flat_map-append}
use Rattle.std.proofs.lemmas.List.{take_all}
use Rattle.std.proofs.Math.Seq.{take-append_seam}
use Rattle.event_list.proofs.Chunked.{took_more}
use Rattle.event_list.proofs.Prefixes.{prefix_self, prefix_trans}
use Rattle.nostr_event.specs.EventView.{EventView}
use Rattle.event_log.specs.Text.{line_of, text_of}
use Rattle.event_log.specs.Media.{Held, Goes, Anyhow, Stays, Takes, TakesPart, Syncs, CutsTo}
use Rattle.event_log.specs.Logs.{HoldsLines, HoldsAll, HasText, HasTorn, Lasts, TakesLines, TakesBegun}

-- ---- what is known stays known

pub goes_both : {P Q R : Held → Held → Type 0} → ((x y z : Held) → P x y → Q y z → R x z) → (a b c : Option Held) → Goes P a b → Goes Q b c → Goes R a c
goes_both f None None None p q = tt
goes_both f None None (Some z) p q = absurd q
goes_both f None (Some y) c p q = absurd p
goes_both f (Some x) None c p q = absurd p
goes_both f (Some x) (Some y) None p q = absurd q
goes_both f (Some x) (Some y) (Some z) p q = f x y z p q

pub goes_as : {P Q : Held → Held → Type 0} → ((x y : Held) → P x y → Q x y) → (a b : Option Held) → Goes P a b → Goes Q a b
goes_as f None None p = tt
goes_as f None (Some y) p = absurd p
goes_as f (Some x) None p = absurd p
goes_as f (Some x) (Some y) p = f x y p

pub anyhow : (P : Held → Held → Type 0) (a b : Option Held) → Goes P a b → Goes Anyhow a b
anyhow P a b p = goes_as {P = P} {Q = Anyhow} (λ x y h. tt) a b p

pub goes_none : (P : Held → Held → Type 0) → ((x : Held) → P x x) → (a : Option Held) → Goes P a a
goes_none P f None = tt
goes_none P f (Some x) = f x

-- what is said of a medium that changes so
pub goes_if : {P : Held → Held → Type 0} {Old New : Held → Type 0} → ((x y : Held) → P x y → Old x → New y) → (a b : Option Held) → Goes P a b → IfSome a Old → IfSome b New
goes_if f None None p h = tt
goes_if f None (Some y) p h = absurd p
goes_if f (Some x) None p h = tt
goes_if f (Some x) (Some y) p h = f x y p h

-- ---- bytes

pub takes_none : (h : Held) → Takes [] h h
takes_none h = record { written = sym (append-nil h.written); lasting = refl }

pub takes_both : (first bs : List ℕ) (x y z : Held) → Takes first x y → Takes bs y z → Takes (first ++ bs) x z
takes_both first bs x y z p q = record {
  written = q.written ∙ ap (λ (t : List ℕ). t ++ bs) p.written ∙ append_assoc x.written first bs;
  lasting = q.lasting ∙ p.lasting;
}

-- the bytes that were written, with some more, are all that were to be
pub takes_all : (done rest bytes : List ℕ) (a b : Option Held) → bytes ≡ done ++ rest → rest ≡ [] → Goes (Takes done) a b → Goes (Takes bytes) a b
takes_all done rest bytes a b is none p = subst (λ (t : List ℕ). Goes (Takes t) a b) (sym (is ∙ ap (λ (t : List ℕ). done ++ t) none ∙ append-nil done)) p

pub takes_more : (done more : List ℕ) (a b c : Option Held) → Goes (Takes done) a b → Goes (Takes more) b c → Goes (Takes (done ++ more)) a c
takes_more done more a b c p q = goes_both (takes_both done more) a b c p q

-- a beginning of the bytes was written, and then nothing
pub takes_part : (done rest bytes : List ℕ) (a b : Option Held) → bytes ≡ done ++ rest → Goes (Takes done) a b → Goes (TakesPart bytes) a b
takes_part done rest bytes a b is p = goes_as {P = Takes done} {Q = TakesPart bytes} (λ x y t. (done, (rest, sym is), t)) a b p

pub takes_then_stays : (done rest bytes : List ℕ) (a b c : Option Held) → bytes ≡ done ++ rest → Goes (Takes done) a b → Goes Stays b c → Goes (TakesPart bytes) a c
takes_then_stays done rest bytes a b c is p q =
    goes_both {P = Takes done} {Q = Stays} {R = TakesPart bytes} (λ x y z t s. (done, (rest, sym is), subst (λ (h : Held). Takes done x h) (sym s) t)) a b c p q

-- ---- lines

pub text_more : (events : List EventView) (place : ℕ) (e : EventView) → slice_get events place ≡ Some e → text_of (take (place + 1) events) ≡ text_of (take place events) ++ line_of e
text_more events place e at =
    ap text_of (took_more events place e at) ∙ flat_map-append line_of (take place events) (e ∷ []) ∙ ap (λ t. text_of (take place events) ++ t) (append-nil (line_of e))

pub lines_more : (events : List EventView) (start place : ℕ) (e : EventView) (text more : List ℕ) → slice_get events place ≡ Some e
    → text_of (take place events) ≡ text_of (take start events) ++ text → more ≡ text ++ line_of e → text_of (take (place + 1) events) ≡ text_of (take start events) ++ more
lines_more events start place e text more at h is =
    text_more events place e at ∙ ap (λ (t : List ℕ). t ++ line_of e) h ∙ append_assoc (text_of (take start events)) text (line_of e) ∙ ap (λ (t : List ℕ). text_of (take start events) ++ t) (sym is)

-- it took the lines of the events from one place to another, which are `count` bytes
abbrev pub TakesUpTo : List EventView → ℕ → ℕ → ℕ → Held → Held → Type 0
TakesUpTo events start place count old new = (bytes : List ℕ) × Takes bytes old new × (text_of (take place events) ≡ text_of (take start events) ++ bytes) × (count ≡ length bytes)

pub up_to_none : (events : List EventView) (start : ℕ) (a : Option Held) → Goes (TakesUpTo events start start 0) a a
up_to_none events start a = goes_none (TakesUpTo events start start 0) (λ x. ([], takes_none x, sym (append-nil (text_of (take start events))), refl)) a

pub up_to_more : (events : List EventView) (start place next count sum : ℕ) (more : List ℕ) (a b c : Option Held)
    → Goes (TakesUpTo events start place count) a b → text_of (take next events) ≡ text_of (take place events) ++ more → sum ≡ count + length more → Goes (Takes more) b c
    → Goes (TakesUpTo events start next sum) a c
up_to_more events start place next count sum more a b c p lines is q =
    goes_both {P = TakesUpTo events start place count} {Q = Takes more} {R = TakesUpTo events start next sum} (λ x y z t u. (
      t.0 ++ more,
      takes_both t.0 more x y z t.1 u,
      lines ∙ ap (λ (l : List ℕ). l ++ more) t.2 ∙ append_assoc (text_of (take start events)) t.0 more,
      omega (arith, is, t.3, length-append t.0 more),
    )) a b c p q

-- the lines of the first events begin those of all
text_split : (events : List EventView) (place : ℕ) → text_of events ≡ text_of (take place events) ++ text_of (drop place events)
text_split events place = ap text_of (sym (take-append-drop place events)) ∙ flat_map-append line_of (take place events) (drop place events)

-- four texts behind one another
four_texts : (a b part left rest more whole before : List ℕ) → whole ≡ before ++ rest → before ≡ (a ++ b) ++ more → part ++ left ≡ more → whole ≡ a ++ ((b ++ part) ++ (left ++ rest))
four_texts a b part left rest more whole before all here split =
    all ∙ ap (λ (t : List ℕ). t ++ rest) (here ∙ ap (λ (t : List ℕ). (a ++ b) ++ t) (sym split))
    ∙ append_assoc (a ++ b) (part ++ left) rest
    ∙ append_assoc a b ((part ++ left) ++ rest)
    ∙ ap (λ (t : List ℕ). a ++ t) (ap (λ (t : List ℕ). b ++ t) (append_assoc part left rest) ∙ sym (append_assoc b part (left ++ rest)))

pub up_to_some : (events : List EventView) (start place next count : ℕ) (more : List ℕ) (a b c : Option Held)
    → Goes (TakesUpTo events start place count) a b → text_of (take next events) ≡ text_of (take place events) ++ more → Goes (TakesPart more) b c → Goes (TakesBegun events start) a c
up_to_some events start place next count more a b c p lines q =
    goes_both {P = TakesUpTo events start place count} {Q = TakesPart more} {R = TakesBegun events start} (λ x y z t u. (
      t.0 ++ u.0,
      u.1.0 ++ text_of (drop next events),
      takes_both t.0 u.0 x y z t.1 u.2,
      four_texts (text_of (take start events)) t.0 u.0 u.1.0 (text_of (drop next events)) more (text_of events) (text_of (take next events))
          (text_split events next) (lines ∙ ap (λ (l : List ℕ). l ++ more) t.2) u.1.1,
    )) a b c p q

pub up_to_stop : (events : List EventView) (start place count : ℕ) (a b : Option Held) → Goes (TakesUpTo events start place count) a b → Goes (TakesBegun events start) a b
up_to_stop events start place count a b p =
    goes_as {P = TakesUpTo events start place count} {Q = TakesBegun events start} (λ x y t. (
      t.0,
      text_of (drop place events),
      t.1,
      text_split events place ∙ ap (λ (l : List ℕ). l ++ text_of (drop place events)) t.2 ∙ append_assoc (text_of (take start events)) t.0 (text_of (drop place events)),
    )) a b p

pub up_to_all : (events : List EventView) (start place count : ℕ) (a b : Option Held) → length events ≤ place → Goes (TakesUpTo events start place count) a b → Goes (TakesLines events start count) a b
up_to_all events start place count a b long p =
    goes_as {P = TakesUpTo events start place count} {Q = TakesLines events start count} (λ x y t. (t.0, t.1, ap text_of (sym (take_all place events long)) ∙ t.2, t.3)) a b p

-- ---- logs

-- the lines of a beginning begin the lines of the whole
text_prefix : (safe events : List EventView) → IsPrefix safe events → (more : List ℕ) × (text_of events ≡ text_of safe ++ more)
text_prefix safe events p = (text_of p.0, ap text_of (sym p.1) ∙ flat_map-append line_of safe p.0)

prefix_takes : (xs ys : List EventView) → IsPrefix xs ys → take (length xs) ys ≡ xs
prefix_takes xs ys p = ap (take (length xs)) (sym p.1) ∙ take-append_seam xs p.0

cut_text : (n : ℕ) (text rest : List ℕ) → n ≡ length text → take n (text ++ rest) ≡ text
cut_text n text rest is = ap (λ (k : ℕ). take k (text ++ rest)) is ∙ take-append_seam text rest

-- all lines, and nothing else
all_begun : (w : List ℕ) (events : List EventView) → w ≡ text_of events → IsPrefix w (text_of events)
all_begun w events is = ([], append-nil w ∙ is)

pub holds_lines : (events : List EventView) (len : ℕ) (a : Option Held) → IfSome a (HoldsAll events len) → IfSome a (HoldsLines false events len events len)
holds_lines events len None h = tt
holds_lines events len (Some x) h = record {
  rest = [];
  after = events;
  written = h.written ∙ sym (append-nil (text_of events));
  whole = λ _. refl;
  further = prefix_self events;
  begun = all_begun x.written events h.written;
  lasting = h.lasting;
  len_is = h.len_is;
  safe_len_is = h.len_is;
}

-- what may stand behind the lines is cut off
cut_held : (torn : Bool) (events : List EventView) (len : ℕ) (safe : List EventView) (safe_len : ℕ) → IsPrefix safe events → (x y : Held)
    → CutsTo len x y → HoldsLines torn events len safe safe_len x → HoldsLines false events len safe safe_len y
cut_held torn events len safe safe_len p x y c h =
    let more = text_prefix safe events p in
    let long : length (text_of safe) ≤ len = omega (arith, h.len_is, ap length more.1, length-append (text_of safe) more.0) in
    let whole : y.written ≡ text_of events = c.written ∙ ap (take len) h.written ∙ cut_text len (text_of events) h.rest h.len_is in
    record {
      rest = [];
      after = events;
      written = whole ∙ sym (append-nil (text_of events));
      whole = λ _. refl;
      further = prefix_self events;
      begun = all_begun y.written events whole;
      lasting = c.lasting ∙ ap (take len) h.lasting ∙ take_all len (text_of safe) long;
      len_is = h.len_is;
      safe_len_is = h.safe_len_is;
    }

pub cut_lines : (torn : Bool) (events : List EventView) (len : ℕ) (safe : List EventView) (safe_len : ℕ) (a b : Option Held) → IsPrefix safe events
    → Goes (CutsTo len) a b → IfSome a (HoldsLines torn events len safe safe_len) → IfSome b (HoldsLines false events len safe safe_len)
cut_lines torn events len safe safe_len a b p c h = goes_if (cut_held torn events len safe safe_len p) a b c h

stays_held : (torn : Bool) (events : List EventView) (len : ℕ) (safe : List EventView) (safe_len : ℕ) (x y : Held)
    → Stays x y → HoldsLines torn events len safe safe_len x → HoldsLines torn events len safe safe_len y
stays_held torn events len safe safe_len x y s h = subst (HoldsLines torn events len safe safe_len) (sym s) h

pub stays_lines : (torn : Bool) (events : List EventView) (len : ℕ) (safe : List EventView) (safe_len : ℕ) (a b : Option Held)
    → Goes Stays a b → IfSome a (HoldsLines torn events len safe safe_len) → IfSome b (HoldsLines torn events len safe safe_len)
stays_lines torn events len safe safe_len a b s h = goes_if (stays_held torn events len safe safe_len) a b s h

-- all lines last
sync_held : (events : List EventView) (len : ℕ) (safe : List EventView) (safe_len : ℕ) (x y : Held)
    → Syncs x y → HoldsLines false events len safe safe_len x → HoldsLines false events len events len y
sync_held events len safe safe_len x y s h =
    let whole : x.written ≡ text_of events = h.written ∙ ap (λ (t : List ℕ). text_of events ++ t) (h.whole refl) ∙ append-nil (text_of events) in
    record {
      rest = [];
      after = events;
      written = s.written ∙ whole ∙ sym (append-nil (text_of events));
      whole = λ _. refl;
      further = prefix_self events;
      begun = all_begun y.written events (s.written ∙ whole);
      lasting = s.lasting ∙ whole;
      len_is = h.len_is;
      safe_len_is = h.len_is;
    }

pub sync_lines : (events : List EventView) (len : ℕ) (safe : List EventView) (safe_len : ℕ) (a b : Option Held)
    → Goes Syncs a b → IfSome a (HoldsLines false events len safe safe_len) → IfSome b (HoldsLines false events len events len)
sync_lines events len safe safe_len a b s h = goes_if (sync_held events len safe safe_len) a b s h

-- those lines alone that last are trusted
back_held : (torn : Bool) (events : List EventView) (len : ℕ) (safe : List EventView) (safe_len : ℕ) → IsPrefix safe events → (x y : Held)
    → Stays x y → HoldsLines torn events len safe safe_len x → HoldsLines true safe safe_len safe safe_len y
back_held torn events len safe safe_len p x y s h =
    let more = text_prefix safe events p in record {
      rest = more.0 ++ h.rest;
      after = h.after;
      written = ap (λ (k : Held). k.written) s ∙ h.written ∙ ap (λ (t : List ℕ). t ++ h.rest) more.1 ∙ append_assoc (text_of safe) more.0 h.rest;
      whole = λ is. absurd (cc is);
      further = prefix_trans safe events h.after p h.further;
      begun = subst (λ (k : Held). IsPrefix k.written (text_of h.after)) (sym s) h.begun;
      lasting = ap (λ (k : Held). k.lasting) s ∙ h.lasting;
      len_is = h.safe_len_is;
      safe_len_is = h.safe_len_is;
    }

pub back_lines : (torn : Bool) (events : List EventView) (len : ℕ) (safe : List EventView) (safe_len : ℕ) (a b : Option Held) → IsPrefix safe events
    → Goes Stays a b → IfSome a (HoldsLines torn events len safe safe_len) → IfSome b (HoldsLines true safe safe_len safe safe_len)
back_lines torn events len safe safe_len a b p s h = goes_if (back_held torn events len safe safe_len p) a b s h

-- the lines of further events
more_held : (old new : List EventView) (start len count sum : ℕ) (safe : List EventView) (safe_len : ℕ) → IsPrefix old new → start ≡ length old → sum ≡ len + count → (x y : Held)
    → TakesLines new start count x y → HoldsLines false old len safe safe_len x → HoldsLines false new sum safe safe_len y
more_held old new start len count sum safe safe_len p from is x y t h =
    let whole : x.written ≡ text_of old = h.written ∙ ap (λ (l : List ℕ). text_of old ++ l) (h.whole refl) ∙ append-nil (text_of old) in
    let begun : take start new ≡ old = ap (λ (n : ℕ). take n new) from ∙ prefix_takes old new p in
    let text : text_of new ≡ text_of old ++ t.0 = t.2 ∙ ap (λ (es : List EventView). text_of es ++ t.0) begun in
    let now : y.written ≡ text_of new = t.1.written ∙ ap (λ (l : List ℕ). l ++ t.0) whole ∙ sym text in
    record {
      rest = [];
      after = new;
      written = now ∙ sym (append-nil (text_of new));
      whole = λ _. refl;
      further = prefix_self new;
      begun = all_begun y.written new now;
      lasting = t.1.lasting ∙ h.lasting;
      len_is = omega (arith, is, h.len_is, t.3, ap length text, length-append (text_of old) t.0);
      safe_len_is = h.safe_len_is;
    }

-- a beginning of the lines of further events
begun_held : (old new : List EventView) (start len : ℕ) (safe : List EventView) (safe_len : ℕ) → IsPrefix old new → start ≡ length old → (x y : Held)
    → TakesBegun new start x y → HoldsLines false old len safe safe_len x → HoldsLines true old len safe safe_len y
begun_held old new start len safe safe_len p from x y t h =
    let whole : x.written ≡ text_of old = h.written ∙ ap (λ (l : List ℕ). text_of old ++ l) (h.whole refl) ∙ append-nil (text_of old) in
    let first : take start new ≡ old = ap (λ (n : ℕ). take n new) from ∙ prefix_takes old new p in
    let now : y.written ≡ text_of old ++ t.0 = t.2.written ∙ ap (λ (l : List ℕ). l ++ t.0) whole in
    record {
      rest = t.0;
      after = new;
      written = now;
      whole = λ is. absurd (cc is);
      further = p;
      begun = (t.1, ap (λ (l : List ℕ). l ++ t.1) now ∙ append_assoc (text_of old) t.0 t.1 ∙ ap (λ (es : List EventView). text_of es ++ (t.0 ++ t.1)) (sym first) ∙ sym t.3);
      lasting = t.2.lasting ∙ h.lasting;
      len_is = h.len_is;
      safe_len_is = h.safe_len_is;
    }

pub begun_lines : (old new : List EventView) (start len : ℕ) (safe : List EventView) (safe_len : ℕ) (a b : Option Held) → IsPrefix old new → start ≡ length old
    → (torn : Bool) → torn ≡ false → Goes (TakesBegun new start) a b → IfSome a (HoldsLines torn old len safe safe_len) → IfSome b (HoldsLines true old len safe safe_len)
begun_lines old new start len safe safe_len a b p from torn whole t h =
    goes_if (begun_held old new start len safe safe_len p from) a b t (subst (λ (w : Bool). IfSome a (HoldsLines w old len safe safe_len)) whole h)

pub more_lines : (old new : List EventView) (start len count sum : ℕ) (safe : List EventView) (safe_len : ℕ) (a b : Option Held) → IsPrefix old new → start ≡ length old → sum ≡ len + count
    → Goes (TakesLines new start count) a b → IfSome a (HoldsLines false old len safe safe_len) → IfSome b (HoldsLines false new sum safe safe_len)
more_lines old new start len count sum safe safe_len a b p from is t h = goes_if (more_held old new start len count sum safe safe_len p from is) a b t h

-- ---- what the clauses say

pub has_text : (torn : Bool) (events : List EventView) (len : ℕ) (safe : List EventView) (safe_len : ℕ) (a b : Option Held) → torn ≡ false
    → Goes Anyhow a b → IfSome b (HoldsLines torn events len safe safe_len) → Goes (HasText events) a b
has_text torn events len safe safe_len None None is k h = tt
has_text torn events len safe safe_len None (Some y) is k h = absurd k
has_text torn events len safe safe_len (Some x) None is k h = absurd k
has_text torn events len safe safe_len (Some x) (Some y) is k h = h.written ∙ ap (λ (t : List ℕ). text_of events ++ t) (h.whole is) ∙ append-nil (text_of events)

pub has_torn : (torn : Bool) (events : List EventView) (len : ℕ) (safe : List EventView) (safe_len : ℕ) (a b : Option Held)
    → Goes Anyhow a b → IfSome b (HoldsLines torn events len safe safe_len) → Goes (HasTorn events) a b
has_torn torn events len safe safe_len None None k h = tt
has_torn torn events len safe safe_len None (Some y) k h = absurd k
has_torn torn events len safe safe_len (Some x) None k h = absurd k
has_torn torn events len safe safe_len (Some x) (Some y) k h = (h.rest, h.after, h.written, h.further, h.begun)

pub lasts : (torn : Bool) (events : List EventView) (len : ℕ) (safe : List EventView) (safe_len : ℕ) (a b : Option Held) → safe ≡ events
    → Goes Anyhow a b → IfSome b (HoldsLines torn events len safe safe_len) → Goes (Lasts events) a b
lasts torn events len safe safe_len None None is k h = tt
lasts torn events len safe safe_len None (Some y) is k h = absurd k
lasts torn events len safe safe_len (Some x) None is k h = absurd k
lasts torn events len safe safe_len (Some x) (Some y) is k h = h.lasting ∙ ap text_of is

-- what is said of the end alone
pub end_after : (P : Held → Type 0) (a b c : Option Held) → Goes Anyhow a b → Goes (λ _ z. P z) b c → Goes (λ _ z. P z) a c
end_after P a b c k p = goes_both {P = Anyhow} {Q = λ _ z. P z} {R = λ _ z. P z} (λ _ _ _ _ q. q) a b c k p

pub text_after : (events : List EventView) (a b c : Option Held) → Goes Anyhow a b → Goes (HasText events) b c → Goes (HasText events) a c
text_after events a b c k p = goes_both {P = Anyhow} {Q = HasText events} {R = HasText events} (λ _ _ _ _ q. q) a b c k p

pub torn_after : (events : List EventView) (a b c : Option Held) → Goes Anyhow a b → Goes (HasTorn events) b c → Goes (HasTorn events) a c
torn_after events a b c k p = goes_both {P = Anyhow} {Q = HasTorn events} {R = HasTorn events} (λ _ _ _ _ q. q) a b c k p

pub lasts_after : (events : List EventView) (a b c : Option Held) → Goes Anyhow a b → Goes (Lasts events) b c → Goes (Lasts events) a c
lasts_after events a b c k p = goes_both {P = Anyhow} {Q = Lasts events} {R = Lasts events} (λ _ _ _ _ q. q) a b c k p

pub any_after : (a b c : Option Held) → Goes Anyhow a b → Goes Anyhow b c → Goes Anyhow a c
any_after a b c k p = goes_both {P = Anyhow} {Q = Anyhow} {R = Anyhow} (λ _ _ _ _ q. q) a b c k p

pub more_again : (old new again : List EventView) (start len count sum : ℕ) (safe : List EventView) (safe_len : ℕ) (a b : Option Held) → again ≡ new → IsPrefix safe old → IsPrefix old new
    → start ≡ length old → sum ≡ len + count → (torn : Bool) → torn ≡ false → Goes (TakesLines new start count) a b → IfSome a (HoldsLines torn old len safe safe_len)
    → IsPrefix safe again × IfSome b (HoldsLines false again sum safe safe_len)
more_again old new again start len count sum safe safe_len a b same begins p from is torn whole t h =
    let held = subst (λ (w : Bool). IfSome a (HoldsLines w old len safe safe_len)) whole h in (
      subst (λ (es : List EventView). IsPrefix safe es) (sym same) (prefix_trans safe old new begins p),
      subst (λ (es : List EventView). IfSome b (HoldsLines false es sum safe safe_len)) (sym same) (more_lines old new start len count sum safe safe_len a b p from is t held),
    )

-- all of the lines are a beginning of them
pub lines_begun : (new : List EventView) (start count : ℕ) (a b : Option Held) → Goes (TakesLines new start count) a b → Goes (TakesBegun new start) a b
lines_begun new start count a b t =
    goes_as {P = TakesLines new start count} {Q = TakesBegun new start} (λ x y u. (u.0, [], u.1, u.2 ∙ ap (λ (l : List ℕ). text_of (take start new) ++ l) (sym (append-nil u.0)))) a b t

pub sync_again : (torn : Bool) (events again : List EventView) (len : ℕ) (safe : List EventView) (safe_len : ℕ) (a b : Option Held) → again ≡ events → torn ≡ false
    → Goes Syncs a b → IfSome a (HoldsLines torn events len safe safe_len) → IsPrefix again events × IfSome b (HoldsLines torn events len again len)
sync_again torn events again len safe safe_len a b same whole s h =
    let held = subst (λ (t : Bool). IfSome a (HoldsLines t events len safe safe_len)) whole h in
    let done = sync_lines events len safe safe_len a b s held in (
      subst (λ (es : List EventView). IsPrefix es events) (sym same) (prefix_self events),
      subst (λ (t : Bool). IfSome b (HoldsLines t events len again len)) (sym whole) (subst (λ (es : List EventView). IfSome b (HoldsLines false events len es len)) (sym same) done),
    )

pub back_again : (torn : Bool) (events again : List EventView) (len : ℕ) (safe : List EventView) (safe_len : ℕ) (a b : Option Held) → again ≡ safe → IsPrefix safe events
    → Goes Stays a b → IfSome a (HoldsLines torn events len safe safe_len) → IsPrefix safe again × IfSome b (HoldsLines true again safe_len safe safe_len)
back_again torn events again len safe safe_len a b same p s h = (
  subst (λ (es : List EventView). IsPrefix safe es) (sym same) (prefix_self safe),
  subst (λ (es : List EventView). IfSome b (HoldsLines true es safe_len safe safe_len)) (sym same) (back_lines torn events len safe safe_len a b p s h),
)

-- ---- beginnings

-- what begins a list begins the same list
pub begins_as : (safe old new : List EventView) → IsPrefix safe old → new ≡ old → IsPrefix safe new
begins_as safe old new p is = subst (IsPrefix safe) (sym is) p

-- what is the same as a beginning begins
pub begins_from : (safe old new : List EventView) → old ≡ safe → IsPrefix old new → IsPrefix safe new
begins_from safe old new is p = subst (λ (es : List EventView). IsPrefix es new) is p

-- what begins a list begins the list that this one grows to
pub begins_grown : (safe old mid new : List EventView) → IsPrefix safe old → mid ≡ old → IsPrefix mid new → IsPrefix safe new
begins_grown safe old mid new p is q = prefix_trans safe old new p (begins_from old mid new is q)

-- ---- results

-- what is said of a value says nothing of an error
pub no_ok : {T E : Type 0} (r : Result T E) (P : T → Type 0) → IsErr r → IfOk r P
no_ok (Ok x) P is = absurd (cc is)
no_ok (Err e) P is = tt

-- what is said of an error says nothing of a value
pub on_err : {T E : Type 0} (r : Result T E) (P : Type 0) → P → OnErr r P
on_err (Ok x) P p = tt
on_err (Err e) P p = p
