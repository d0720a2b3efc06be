use Rattle.std.proofs.Common.{◌≡◌, ◌++◌, ◌∷◌, [], map, ap, sym, ◌∙◌, rules}
use Rattle.std.specs.List.{flat_map}
use Rattle.std.specs.Map.Iter.{deref}
use Rattle.std.proofs.lemmas.Map.Iter.{iter_end}
use Rattle.std.proofs.lemmas.List.{map-append}
use Rattle.item_key.specs.declared.Id.{Id}
use Rattle.mirror_run.specs.ReconText.{message_text, count_text}
use Rattle.mirror_run.proofs.OutputLemmas.{Appends-both, Appends-same, flat_map-push}
use Rattle.mirror_run.proofs.output.write_ids.Goals as goal

pub loop-id-preserved : goal.loop-id-preserved
loop-id-preserved g c =
    let line = λ (id : Id). message_text (c.args.sign ∷ []) id.0 in
    let more : flat_map line (map deref (c.loop-id.yielded ++ c.in-Some.id ∷ [])) ≡ flat_map line (map deref c.loop-id.yielded) ++ line c.in-Some.id.now =
    ap (flat_map line) (map-append deref c.loop-id.yielded (c.in-Some.id ∷ [])) ∙ flat_map-push line (map deref c.loop-id.yielded) c.in-Some.id.now in
    Appends-same _ _ _ _ (sym more) (Appends-both _ _ _ _ _ c.loop-id.invariant c.in_ok-write_id.ensures)

pub returns : goal.returns
returns g c =
    let line = λ (id : Id). message_text (c.args.sign ∷ []) id.0 in
    let all : map deref c.loop-id.yielded ≡ c.args.ids.now.keys = search (rules, iter_end) in
    Appends-both _ _ _ _ _ (Appends-same _ _ _ _ (ap (count_text c.args.word.now) c.len.ensures.len) c.in_ok-write_count.ensures)
    (Appends-same _ _ _ _ (ap (flat_map line) all) c.loop-id.invariant)
