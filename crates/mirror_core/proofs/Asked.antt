-- Ids that are asked for in the order of their cells.
use Rattle.std.proofs.Common.{◌≡◌, ℕ, ◌+◌, ◌≤◌, List, [], ◌∷◌, ◌++◌, length, Some, refl, sym, ap, ◌∙◌, subst, ⊎_elim, append_assoc, arith}
use Rattle.std.specs.Prelude.{slice_get}
use Rattle.std.proofs.lemmas.List.{append-nil}
use Rattle.std.proofs.lemmas.Option.{slice_get_within}
use Rattle.std.proofs.Math.Seq.{drop-append_seam}
use Rattle.item_key.specs.declared.Id.{Id}
use Rattle.claim_board.specs.Views.{LaneView}
use Rattle.event_source.specs.Fetching.{Fetching, fetching, fetched}
use Rattle.mirror_core.specs.Asked.{AreIdsOf, AsksOnce, asked_in}

module _ (cells : List (Id × ℕ)) (relay : ℕ) where
  from_lower : (first mid next : ℕ) (ids : List Id) → first ≤ mid → AreIdsOf cells relay mid next ids → AreIdsOf cells relay first next ids
  from_lower first mid next [] le h = omega (arith, le, h)
  from_lower first mid next (id ∷ ids) le h = let low = h.1 in (h.0, omega (arith, le, low), h.2, h.3)

  pub within : (first next : ℕ) (ids : List Id) → AreIdsOf cells relay first next ids → first ≤ next
  within first next [] h = h
  within first next (id ∷ ids) h = let low = h.1 in let rest = within (h.0 + 1) next ids h.3 in omega (arith, low, rest)

  pub up_to : (first next more : ℕ) (ids : List Id) → next ≤ more → AreIdsOf cells relay first next ids → AreIdsOf cells relay first more ids
  up_to first next more [] le h = omega (arith, le, h)
  up_to first next more (id ∷ ids) le h = (h.0, h.1, h.2, up_to (h.0 + 1) next more ids le h.3)

  pub then_ids : (first mid next : ℕ) (xs ys : List Id) → AreIdsOf cells relay first mid xs → AreIdsOf cells relay mid next ys → AreIdsOf cells relay first next (xs ++ ys)
  then_ids first mid next [] ys h k = from_lower first mid next ys h k
  then_ids first mid next (x ∷ xs) ys h k = (h.0, h.1, h.2, then_ids (h.0 + 1) mid next xs ys h.3 k)

  pub one_more : (first n : ℕ) (ids : List Id) (id : Id) → AreIdsOf cells relay first n ids → slice_get cells n ≡ Some (id, relay) → AreIdsOf cells relay first (n + 1) (ids ++ id ∷ [])
  one_more first n ids id h at = then_ids first n (n + 1) ids (id ∷ []) h (n, omega arith, at, omega arith)

  -- the next one is no cell's that isn't there
  all_of_them : (first next : ℕ) (ids : List Id) → first ≤ length cells → AreIdsOf cells relay first next ids → AreIdsOf cells relay first (length cells) ids
  all_of_them first next [] le h = le
  all_of_them first next (x ∷ xs) le h = let low = slice_get_within cells h.0 (x, relay) h.2 in (h.0, h.1, h.2, all_of_them (h.0 + 1) next xs (omega (arith, low)) h.3)

  -- what a log gained asks for cells below the next one
  abbrev pub Asked : ℕ → List Fetching → List Fetching → Type 0
  Asked next before after = (gained : List Fetching) × (after ≡ before ++ gained) × AreIdsOf cells relay 0 next (asked_in gained)

  asked_then : (log more : List Fetching) → asked_in (log ++ more) ≡ asked_in log ++ asked_in more
  asked_then [] more = refl
  asked_then (f ∷ log) more = ap (λ (z : List Id). f.asked ++ z) (asked_then log more) ∙ sym (append_assoc f.asked (asked_in log) (asked_in more))

  asked_push : (log : List Fetching) (ids given : List Id) → asked_in (log ++ fetching ids given ∷ []) ≡ asked_in log ++ ids
  asked_push log ids given = asked_then log (fetching ids given ∷ []) ∙ ap (λ (z : List Id). asked_in log ++ z) (append-nil ids)

  pub asked_none : (before : List Fetching) → Asked 0 before before
  asked_none before = ([], sym (append-nil before), omega arith)

  pub asked_more : (mid next : ℕ) (ids : List Id) (before middle after : List Fetching) → Asked mid before middle → AreIdsOf cells relay mid next ids → AsksOnce ids middle after → Asked next before after
  asked_more mid next ids before middle after a are = ⊎_elim
      (λ (z : after ≡ middle). (a.0, z ∙ a.1, up_to 0 mid next (asked_in a.0) (within mid next ids are) a.2))
      (λ (z : (given : List Id) × (after ≡ middle ++ fetching ids given ∷ [])). (
        a.0 ++ fetching ids z.0 ∷ [],
        z.1 ∙ (ap (λ (x : List Fetching). x ++ fetching ids z.0 ∷ []) a.1 ∙ append_assoc before a.0 (fetching ids z.0 ∷ [])),
        subst (AreIdsOf cells relay 0 next) (sym (asked_push a.0 ids z.0)) (then_ids 0 mid next (asked_in a.0) ids a.2 are),
      ))

  pub asked_all : (next : ℕ) (before after : List Fetching) → Asked next before after → AreIdsOf cells relay 0 (length cells) (asked_in (fetched before after))
  asked_all next before after a =
      let gained : fetched before after ≡ a.0 = ap (fetched before) a.1 ∙ drop-append_seam before a.0 in
      subst (λ (z : List Fetching). AreIdsOf cells relay 0 (length cells) (asked_in z)) (sym gained) (all_of_them 0 next (asked_in a.0) (omega arith) a.2)

-- ---- while a lane stays one of its relay
pub relay_kept : (cells : List (Id × ℕ)) (before after : List Fetching) (next : ℕ) (p q : LaneView) → q.own.relay ≡ p.own.relay → Asked cells p.own.relay next before after → Asked cells q.own.relay next before after
relay_kept cells before after next p q same a = subst (λ (r : ℕ). Asked cells r next before after) (sym same) a

pub asked_batch : (cells : List (Id × ℕ)) (mid next : ℕ) (ids : List Id) (before middle after : List Fetching) (p q : LaneView) → q.own.relay ≡ p.own.relay → Asked cells p.own.relay mid before middle
    → AreIdsOf cells p.own.relay mid next ids → AsksOnce ids middle after → Asked cells q.own.relay next before after
asked_batch cells mid next ids before middle after p q same a are once = relay_kept cells before after next p q same (asked_more cells p.own.relay mid next ids before middle after a are once)
