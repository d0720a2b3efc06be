-- What is written, part by part.
use Rattle.std.proofs.Common.{◌≡◌, ℕ, ◌+◌, ◌-◌, ◌≤◌, ◌<◌, List, [], ◌∷◌, ◌++◌, length, take, get_or, map, flat_map, refl, ap, sym, ◌∙◌, subst, arith, append_assoc, length-append}
use Rattle.std.specs.List.{All}
use Rattle.std.specs.Global.{Vec}
use Rattle.std.proofs.Math.Seq.{take-append_seam}
use Rattle.std.proofs.lemmas.Grind.{flat_map-append}
use Rattle.std.proofs.lemmas.List.{append-nil, take_more}
use Rattle.std.proofs.lemmas.List.Elements.{All-push, All-map}
use Rattle.item_key.specs.declared.Id.{Id}
use Rattle.item_key.specs.Keys.{IsId}
use Rattle.plan_check.specs.File.{File, IsFile, pairs_of}
use Rattle.plan_check.specs.TextLines.{lines_of, ended}
use Rattle.plan_check.specs.PlanText.{header_line, plan_text, offers_text, IsOfForm, IsTextOf}
use Rattle.plan_check.proofs.FormLemmas.{based, offered, given, grouped, plan_lines-is}
use Rattle.plan_check.proofs.TextLemmas.{joined, joined_lines, plan_text-is}

-- one element more
pub written_more : {X : Type 0} (f : X → List ℕ) (xs : List X) (i : ℕ) (d : X) (start before after : List ℕ) → i < length xs → before ≡ start ++ flat_map f (take i xs) → after ≡ before ++ f (get_or xs i d)
    → after ≡ start ++ flat_map f (take (i + 1) xs)
written_more f xs i d start before after lt e k =
    let x = get_or xs i d in
    let grown : flat_map f (take (i + 1) xs) ≡ flat_map f (take i xs) ++ f x =
    ap (flat_map f) (take_more xs i d lt) ∙ flat_map-append f (take i xs) (x ∷ []) ∙ ap (λ t. flat_map f (take i xs) ++ t) (append-nil (f x)) in
    k ∙ ap (λ t. t ++ f x) e ∙ append_assoc start (flat_map f (take i xs)) (f x) ∙ ap (λ t. start ++ t) (sym grown)

pub all_more : {X : Type 0} (P : X → Type 0) (xs : List X) (i : ℕ) (d : X) → i < length xs → All P (take i xs) → P (get_or xs i d) → All P (take (i + 1) xs)
all_more P xs i d lt h p = subst (All P) (sym (take_more xs i d lt)) (All-push P (take i xs) (get_or xs i d) h p)

pub flat_map-map : {X Y : Type 0} (f : Y → List ℕ) (g : X → Y) (xs : List X) → flat_map f (map g xs) ≡ flat_map (λ x. f (g x)) xs
flat_map-map f g [] = refl
flat_map-map f g (x ∷ xs) = ap (λ t. f (g x) ++ t) (flat_map-map f g xs)

-- what stands behind the lines of the offers
abbrev pub behind_text : File → List ℕ
behind_text file = flat_map given file.gives ++ grouped file.group

joined_records : {X : Type 0} (f : X → List ℕ) (xs : List X) (rest : List (List ℕ)) → joined (map f xs ++ rest) ≡ flat_map f xs ++ joined rest
joined_records f xs rest = let id : List ℕ → List ℕ = λ line. line in flat_map-append id (map f xs) rest ∙ ap (λ t. t ++ joined rest) (flat_map-map id f xs)

-- the parts of a plan's text
pub plan_text-parts : (file : File) → plan_text file ≡ ended (header_line file.bases) ++ (flat_map based file.bases ++ (flat_map offered file.offers ++ behind_text file))
plan_text-parts file =
    let gives : joined (map given file.gives ++ grouped file.group ∷ []) ≡ behind_text file = joined_records given file.gives (grouped file.group ∷ []) ∙ ap (λ t. flat_map given file.gives ++ t) (append-nil (grouped file.group)) in
    let offers = joined_records offered file.offers (map given file.gives ++ grouped file.group ∷ []) ∙ ap (λ t. flat_map offered file.offers ++ t) gives in
    plan_text-is file ∙ ap joined (plan_lines-is file) ∙ ap (λ t. ended (header_line file.bases) ++ t) (joined_records based file.bases _ ∙ ap (λ t. flat_map based file.bases ++ t) offers)

offers_text-is : (bases : List (ℕ × ℕ)) (offers : List (Id × List ℕ)) → offers_text bases offers ≡ ended (header_line bases) ++ (flat_map based bases ++ flat_map offered offers)
unfolding offers_text
offers_text-is bases offers = refl

-- a text in two parts: up to the offers, and what comes behind them
offers_text-with : (bases : List (ℕ × ℕ)) (offers : List (Id × List ℕ)) (rest : List ℕ) → ended (header_line bases) ++ (flat_map based bases ++ (flat_map offered offers ++ rest)) ≡ offers_text bases offers ++ rest
offers_text-with bases offers rest =
    ap (λ t. ended (header_line bases) ++ t) (sym (append_assoc (flat_map based bases) (flat_map offered offers) rest))
    ∙ sym (append_assoc (ended (header_line bases)) (flat_map based bases ++ flat_map offered offers) rest) ∙ ap (λ t. t ++ rest) (sym (offers_text-is bases offers))

pub plan_text-behind : (file : File) → plan_text file ≡ offers_text file.bases file.offers ++ behind_text file
plan_text-behind file = plan_text-parts file ∙ offers_text-with file.bases file.offers (behind_text file)

pub text_split : (text rest : List ℕ) (bases : List (ℕ × ℕ)) (offers : List (Id × List ℕ)) → lines_of text ≡ ended (header_line bases) ∷ (map based bases ++ (map offered offers ++ lines_of rest)) → text ≡ offers_text bases offers ++ rest
text_split text rest bases offers e =
    sym (joined_lines text) ∙ ap joined e
    ∙ ap (λ t. ended (header_line bases) ++ t) (joined_records based bases _ ∙ ap (λ t. flat_map based bases ++ t) (joined_records offered offers (lines_of rest) ∙ ap (λ t. flat_map offered offers ++ t) (joined_lines rest)))
    ∙ offers_text-with bases offers rest

pub split_room : (text front rest : List ℕ) → text ≡ front ++ rest → length rest ≤ length text
split_room text front rest e = omega (arith, ap length e, length-append front rest)

pub split_front : (text front rest : List ℕ) → text ≡ front ++ rest → take (length text - length rest) text ≡ front
split_front text front rest e =
    let at : length text - length rest ≡ length front = omega (arith, ap length e, length-append front rest) in
    ap (λ n. take n text) at ∙ ap (take (length front)) e ∙ take-append_seam front rest

pub whole_text : (file : File) (t0 t1 t2 t3 t4 : List ℕ) → t0 ≡ ended (header_line file.bases) → t1 ≡ t0 ++ flat_map based file.bases → t2 ≡ t1 ++ flat_map offered file.offers → t3 ≡ t2 ++ flat_map given file.gives → t4 ≡ t3 ++ grouped file.group → t4 ≡ plan_text file
whole_text file t0 t1 t2 t3 t4 e0 e1 e2 e3 e4 =
    let head = ended (header_line file.bases) in
    let bs = flat_map based file.bases in
    let os = flat_map offered file.offers in
    let gs = flat_map given file.gives in
    e4 ∙ ap (λ t. t ++ grouped file.group) (e3 ∙ ap (λ t. t ++ gs) (e2 ∙ ap (λ t. t ++ os) (e1 ∙ ap (λ t. t ++ bs) e0)))
    ∙ append_assoc (((head ++ bs) ++ os)) gs (grouped file.group) ∙ append_assoc (head ++ bs) os (gs ++ grouped file.group) ∙ append_assoc head bs (os ++ (gs ++ grouped file.group)) ∙ sym (plan_text-parts file)

-- a plan file whose ids are ids
form_of : (file : File) → IsFile file → All (λ o. IsId o.0) file.offers → All (λ g. IsId g.0) file.gives → IsOfForm file
form_of file ok offers gives = record {
  bases = ok.bases_ok.each;
  offers = λ k d lt. record { id = offers k d lt; some = ok.offers_ok.some k d lt; relays = (ok.offers_ok.relays k d lt).small };
  gives = λ k d lt. record { id = gives k d lt; relay = ok.relays k d lt };
  group = ok.group_ok.small;
}

pub ids_of : (offers : List (Id × Vec ℕ)) → All (λ o. IsId o.0) offers → All (λ o. IsId o.0) (pairs_of offers)
ids_of offers h = All-map (λ (o : Id × List ℕ). IsId o.0) (λ (o : Id × Vec ℕ). (o.0, o.1.items)) offers h

pub written_is : (text : List ℕ) (file : File) → IsFile file → All (λ o. IsId o.0) file.offers → All (λ g. IsId g.0) file.gives → text ≡ plan_text file → IsTextOf text file
written_is text file ok offers gives is = record { form = form_of file ok offers gives; ordered = ok; is = is }

abbrev pub pair_of : Id × Vec ℕ → Id × List ℕ
pair_of o = (o.0, o.1.items)

-- one offer more
pub offers_more : (offers : List (Id × Vec ℕ)) (i : ℕ) (o : Id × Vec ℕ) (start before after : List ℕ) → i < length offers → o ≡ get_or offers i o
    → before ≡ start ++ flat_map offered (pairs_of (take i offers)) → after ≡ before ++ offered (pair_of o) → after ≡ start ++ flat_map offered (pairs_of (take (i + 1) offers))
offers_more offers i o start before after lt is e k =
    let line : Id × Vec ℕ → List ℕ = λ o. offered (pair_of o) in
    let raw : after ≡ start ++ flat_map line (take (i + 1) offers) =
    written_more line offers i o start before after lt (e ∙ ap (λ t. start ++ t) (flat_map-map offered pair_of (take i offers))) (k ∙ ap (λ x. before ++ line x) is) in
    raw ∙ ap (λ t. start ++ t) (sym (flat_map-map offered pair_of (take (i + 1) offers)))
