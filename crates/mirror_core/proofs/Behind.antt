-- The last lane comes first.
use Rattle.std.proofs.Common.{◌≡◌, ◌∙◌, List, [], ◌∷◌, ◌++◌, ap, refl, sym}
use Rattle.claim_board.specs.declared.records.LaneRecord.{LaneRecord}
use Rattle.claim_board.specs.Views.{LaneView, all_of, joined}
use Rattle.atomic_table.specs.Seated.{TableId}
use Rattle.mirror_core.specs.Closing.{behind, IsBack, AllBack}

pub behind_last : (ps : List LaneView) (q : LaneView) → behind (ps ++ q ∷ []) ≡ q.own ∷ behind ps
behind_last [] q = refl
behind_last (p ∷ ps) q = ap (λ (z : List LaneRecord). z ++ p.own ∷ []) (behind_last ps q)

push_more : (xs : List LaneRecord) (y : LaneRecord) (ys : List LaneRecord) → (xs ++ y ∷ []) ++ ys ≡ xs ++ y ∷ ys
push_more [] y ys = refl
push_more (x ∷ xs) y ys = ap (λ (z : List LaneRecord). x ∷ z) (push_more xs y ys)

-- one more lane left
pub behind_more : (k q : LaneView) (ps : List LaneView) (whole : List LaneRecord) → q.others ≡ [] → all_of k ++ behind (ps ++ q ∷ []) ≡ whole → all_of (joined k q) ++ behind ps ≡ whole
behind_more k q ps whole alone h =
    ap (λ (z : List LaneRecord). (k.own ∷ (k.others ++ q.own ∷ z)) ++ behind ps) alone
    ∙ (push_more (k.own ∷ k.others) q.own (behind ps) ∙ (ap (λ (z : List LaneRecord). all_of k ++ z) (sym (behind_last ps q)) ∙ h))

pub back_split : (board : TableId) (ps : List LaneView) (q : LaneView) → AllBack board (ps ++ q ∷ []) → AllBack board ps × IsBack board q
back_split board [] q h = (tt, h.0)
back_split board (p ∷ ps) q h = let r = back_split board ps q h.1 in ((h.0, r.0), r.1)
