use Rattle.std.proofs.Common.{◌≡◌, ℕ, ◌<◌, ◌≤◌, ◌↔◌, IsTrue, inl, inr, Bool, false}
use Rattle.std.proofs.lemmas.Bool.{lt-ltb, le-ltb, cases_lt}
use Rattle.item_key.specs.Keys.{place}
use Rattle.neg_codec.specs.Ranges.{edge_of}
use Rattle.neg_draft.specs.Coverage.{Written, IsDraft, passed}
use Rattle.neg_draft.proofs.Covering.{draft_passes, edge_low}
use Rattle.neg_draft.proofs.draft.Draft.skip.Goals as goal
use Rattle.neg_draft.proofs.draft.Draft.skip.Goals.{then-is_below, else-is_below}

not_below : (a b : ℕ) (t : Bool) → (IsTrue t ↔ a < b) → t ≡ false → b ≤ a
not_below a b t h e = elim (cases_lt a b) [
  | inl lt ↦ absurd (let is = h.1 lt in cc)
  | inr ge ↦ ge
]

pub invariant_of-result : goal.invariant_of-result
invariant_of-result c =
    let d : Written = record { limit = c.self.inside.limit; spans = c.self.inside.ranges; end = edge_of c.self.inside.end } in
    let low = edge_low (edge_of c.args.upper) c.edge.ensures.edge in
    let h : IsDraft (passed d (edge_of c.args.upper)) = draft_passes d (edge_of c.args.upper) c.self.invariant.0 low in
    elim c.if-is_below.branch [
      | then-is_below w ↦
          let lt : place (edge_of c.self.inside.end) < place (edge_of c.args.upper) = c.is_below.ensures.0 w.if-is_below.true in
          rw w.end-is (rw (lt-ltb _ _ lt) at h, c.self.invariant.1)
      | else-is_below w ↦
          let ge : place (edge_of c.args.upper) ≤ place (edge_of c.self.inside.end) = not_below _ _ c.is_below.result c.is_below.ensures w.if-is_below.false in
          rw w.end-is (rw (le-ltb _ _ ge) at h, c.self.invariant.1)
    ]
