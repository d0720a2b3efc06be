use Rattle.std.proofs.Common.{◌≡◌, ◌<◌, ◌∙◌, ◌-◌, suc, length, map, None, rules, sym, ap}
use Rattle.std.specs.Arc.{arc_value}
use Rattle.id_map.specs.Places.{find_in, sets}
use Rattle.id_map.specs.declared.node.Node.{out-Node}
use Rattle.id_map.specs.declared.node.Node.TheViews.{outs-Leaf, outs-Fork}
use Rattle.id_map.proofs.Layers.{leaf_is, fork_is, push_sets, put_sets, same_children}
use Rattle.id_map.proofs.node.+change.Goals as goal

pub with-returns-in_ok-push-in-Leaf : goal.with-returns-in_ok-push-in-Leaf
with-returns-in_ok-push-in-Leaf t c = λ id.
    let none : find_in c.args.entry.id.0 c.in-Leaf.entries.items ≡ None = search rules in
    leaf_is c.args.left id _ c.push.new.self (outs-Leaf c.push.new.self)
    ∙ ap (find_in id) c.in_ok-push-in-Leaf.ensures.items
    ∙ push_sets c.args.entry c.in-Leaf.entries.items none id
    ∙ ap (sets c.args.entry id) (sym (leaf_is c.args.left id c.args.node c.in-Leaf.entries (ap out-Node c.in-Leaf.is ∙ outs-Leaf c.in-Leaf.entries)))

pub grown-returns-in_ok-put-in-Fork : goal.grown-returns-in_ok-put-in-Fork
grown-returns-in_ok-put-in-Fork t c = λ id.
    let n = c.args.left - 1 in
    let at : c.args.left ≡ suc n = search rules in
    let same : map arc_value c.in_ok-children-in-Fork.children.items ≡ map arc_value c.in-Fork.children.items = search rules in
    fork_is c.args.left n id _ c.put-in-Fork.new.children at (outs-Fork c.put-in-Fork.new.children)
    ∙ c.in_ok-put-in-Fork.ensures id
    ∙ ap (sets c.args.entry id)
    (same_children n id c.in_ok-children-in-Fork.children.items c.in-Fork.children.items same
    ∙ sym (fork_is c.args.left n id c.args.node.now c.in-Fork.children at (ap out-Node c.in-Fork.is ∙ outs-Fork c.in-Fork.children)))

pub put-returns : goal.put-returns
put-returns t c =
    let children = c.args.children.now.items in
    let within : c.digit-index.result < length children = search rules in
    put_sets c.args.left c.args.entry children c.digit-index.result c.index-children-index.result _ c.digit-index.ensures.value within c.in_ok-put_into.ensures
