use Rattle.std.proofs.Common.{◌≡◌, ℕ, ◌+◌, ◌<◌, ◌≤◌, ◌++◌, [], ◌∷◌, length, List, refl, sym, ap, subst, ◌∙◌, append_assoc, arith}
use Rattle.item_key.specs.Keys.{place, least, infinity}
use Rattle.item_key.specs.declared.Item.{Item}
use Rattle.neg_codec.specs.Ranges.{Span, edge_of, span_of}
use Rattle.neg_codec.specs.Encoding.{text_of}
use Rattle.neg_draft.specs.Coverage.{Written, IsDraft, Tells, end_of, gap, told_more}
use Rattle.neg_draft.proofs.Covering.{draft_tells, edge_low, filled_end}
use Rattle.neg_draft.proofs.Telling.{fill_fits}
use Rattle.neg_draft.proofs.draft.Draft.add.Goals as goal

pub push_from-requires-clause-above : goal.push_from-requires-clause-above
push_from-requires-clause-above c =
    let end = filled_end (record { limit = c.self.inside.limit; spans = c.self.inside.ranges; end = edge_of c.self.inside.end }) c.self.invariant.0 in
    omega (arith, c.requires.tells.ascends.1, ap place end, ap (λ (w : Written). place w.end) c.self.view_is)

pub push_from-requires-clause-skip : goal.push_from-requires-clause-skip
push_from-requires-clause-skip c =
    let le = fill_fits (record { limit = c.self.inside.limit; spans = c.self.inside.ranges; end = edge_of c.self.inside.end }) c.args.self.now (edge_of c.args.range.upper) (span_of c.args.range) c.args.self.now.limit c.self.view_is c.requires.fits in
    omega (arith, le, c.self.invariant.1, ap (λ (w : Written). w.limit) c.self.view_is)

-- what the ranges are then
told : (d e : Written) (filled new : List Span) (upper : Item) (r : Span) → d ≡ e → filled ≡ d.spans ++ gap (end_of least d.spans) d.end → new ≡ filled ++ r ∷ [] → new ≡ (told_more e upper (r ∷ [])).spans
told d e filled new upper r same fill push =
    push ∙ ap (λ (x : List Span). x ++ r ∷ []) fill ∙ append_assoc d.spans (gap (end_of least d.spans) d.end) (r ∷ []) ∙ ap (λ (w : Written). (told_more w upper (r ∷ [])).spans) same

new_draft : (d e : Written) (limit : ℕ) (upper : Item) (r : Span) (new : List Span) → d ≡ e → IsDraft d → limit ≡ d.limit → place upper ≤ place infinity → Tells e.end upper (r ∷ []) → length (text_of (told_more e upper (r ∷ [])).spans) ≤ e.limit
    → (place upper < place infinity → length (text_of (told_more e upper (r ∷ [])).spans) + 64 ≤ e.limit) → new ≡ (told_more e upper (r ∷ [])).spans → IsDraft (record { limit = limit; spans = new; end = upper })
new_draft d e limit upper r new same draft lim low tells fits room is =
    let whole = draft_tells e upper (r ∷ []) (subst IsDraft same draft) low tells fits room in
    let made : told_more e upper (r ∷ []) ≡ record { limit = limit; spans = new; end = upper } =
    ap (λ (x : List Span). record { limit = e.limit; spans = x; end = upper }) (sym is) ∙ ap (λ (n : ℕ). record { limit = n; spans = new; end = upper }) (sym (lim ∙ ap (λ (w : Written). w.limit) same)) in
    subst IsDraft made whole

pub invariant_of-self-2 : goal.invariant_of-self-2
invariant_of-self-2 c = (
  new_draft (record { limit = c.self.inside.limit; spans = c.self.inside.ranges; end = edge_of c.self.inside.end }) c.args.self.now c.self.inside.limit (edge_of c.args.range.upper) (span_of c.args.range) c.push_from.new.self
      c.self.view_is c.self.invariant.0 refl (edge_low (edge_of c.args.range.upper) c.edge.ensures.edge) c.requires.tells c.requires.fits c.requires.room
      (told (record { limit = c.self.inside.limit; spans = c.self.inside.ranges; end = edge_of c.self.inside.end }) c.args.self.now (c.self.inside.ranges ++ gap (end_of least c.self.inside.ranges) (edge_of c.self.inside.end)) c.push_from.new.self (edge_of c.args.range.upper) (span_of c.args.range) c.self.view_is refl c.in_ok-push_from.ensures.ok),
  c.self.invariant.1,
)
