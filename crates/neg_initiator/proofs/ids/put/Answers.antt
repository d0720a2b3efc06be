use Rattle.std.proofs.Common.{inl, inr, sym, subst}
use Rattle.std.specs.Prelude.{Contains}
use Rattle.std.specs.BTreeSet.{insert_key}
use Rattle.item_key.specs.declared.Id.{Id}
use Rattle.neg_initiator.specs.Ids.{id_cmp}
use Rattle.neg_initiator.proofs.Keys.{put_gives, put_keeps, put_there}
use Rattle.neg_initiator.proofs.ids.put.Goals as goal

pub returns : goal.returns
returns c = rw c.in_ok-insert.ensures.keys (λ i. (
  λ h. put_gives c.args.set.now.keys c.args.id i h,
  λ h. elim h [
    | inl old ↦ put_keeps c.args.set.now.keys c.args.id i old
    | inr e ↦ subst (λ (y : Id). Contains (insert_key id_cmp c.args.set.now.keys c.args.id) y) (sym e) (put_there c.args.set.now.keys c.args.id)
  ],
))
