use Rattle.std.proofs.Common.{◌≡◌, ◌∷◌, ◌++◌, [], ℕ, suc, length, Option, Some, None, ap, sym, refl, rules, ◌∙◌, arith}
use Rattle.std.specs.Prelude.{IfSome, option_map}
use Rattle.std.proofs.lemmas.List.{length-append}
use Rattle.std.specs.Arc.{arc_value}
use Rattle.event_list.proofs.Chunked.{took_more}
use Rattle.event_store.proofs.blank.Front.add_from.Goals as goal

-- how many were added, where so many were
level_is : (head : Option ℕ) (n : ℕ) → IfSome head (λ m. m ≡ n) → head ≡ option_map (λ _. n) head
level_is None n h = refl
level_is (Some m) n h = ap Some h

-- one more
level_more : (head before after : Option ℕ) (n m : ℕ) → before ≡ option_map (λ _. n) head → after ≡ option_map suc before → m ≡ suc n → after ≡ option_map (λ _. m) head
level_more None before after n m was now more = now ∙ ap (option_map suc) was
level_more (Some k) before after n m was now more = now ∙ ap (option_map suc) was ∙ ap Some (sym more)

pub loop-place-init : goal.loop-place-init
loop-place-init g c = record { list = c.requires.seen; head = level_is _ _ c.requires.level }

pub loop-place-preserved : goal.loop-place-preserved
loop-place-preserved g c =
    let e = arc_value c.get.result.now in
    let added : c.add.new.self ≡ c.loop-place.self ++ e ∷ [] = search rules in
    let counted : c.add.new.head ≡ option_map suc c.loop-place.head = search rules in
    let longer : length c.add.new.self ≡ suc (length c.loop-place.self) = omega (arith, ap length added, length-append c.loop-place.self (e ∷ [])) in
    record {
      list = added ∙ ap (λ xs. xs ++ e ∷ []) c.loop-place.invariant.list ∙ sym (took_more c.args.events.now c.loop-place.place e c.get.ensures);
      head = level_more _ _ _ _ _ c.loop-place.invariant.head counted longer;
    }
