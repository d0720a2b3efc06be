use Rattle.std.proofs.Common.{◌≡◌, ◌≤◌, ◌++◌, ◌∷◌, [], ℕ, length, length-append, map, arith, rules, ap, sym, ◌∙◌}
use Rattle.nostr_event.specs.Parts.{parts, Rise}
use Rattle.nostr_event.proofs.Parting.{rises_more, one_more_part, length_parts}
use Rattle.nostr_event.proofs.tags.Tags.with.Goals as goal
use Rattle.nostr_event.proofs.tags.Tags.with.Goals.{In_ok-push}

-- the texts as they are then
all : (c : In_ok-push) → parts c.put_texts.new.bytes.items 0 c.put_texts.new.ends.items ≡ parts c.self.inside.bytes.items 0 c.self.inside.ends.items ++ map (λ s. s.now) c.args.texts.now
all c = search rules

-- a text for each place
many : (c : In_ok-push) → length c.put_texts.new.ends.items ≡ length (parts c.self.inside.bytes.items 0 c.self.inside.ends.items ++ map (λ s. s.now) c.args.texts.now)
many c = sym (length_parts c.put_texts.new.bytes.items 0 c.put_texts.new.ends.items) ∙ ap length (all c)

put : (c : In_ok-push) → c.push.new.self.items ≡ c.self.inside.tags.items ++ length (parts c.self.inside.bytes.items 0 c.self.inside.ends.items ++ map (λ s. s.now) c.args.texts.now) ∷ []
put c =
    let pushed : c.push.new.self.items ≡ c.self.inside.tags.items ++ length c.put_texts.new.ends.items ∷ [] = search rules in
    pushed ∙ ap (λ (n : ℕ). c.self.inside.tags.items ++ n ∷ []) (many c)

pub invariant_of-result : goal.invariant_of-result
invariant_of-result c =
    let texts = parts c.self.inside.bytes.items 0 c.self.inside.ends.items in
    let more = map (λ s. s.now) c.args.texts.now in
    let rise = c.self.invariant.1 in
    let fits : length c.self.inside.ends.items ≤ length (texts ++ more) = omega (arith, length-append texts more, length_parts c.self.inside.bytes.items 0 c.self.inside.ends.items) in
    (c.in_ok-put_texts.ensures.are, rw (put c, many c) (rises_more 0 c.self.inside.tags.items (length c.self.inside.ends.items) (length (texts ++ more)) rise fits))

pub returns : goal.returns
returns c =
    let texts = parts c.self.inside.bytes.items 0 c.self.inside.ends.items in
    let rise : Rise 0 c.self.inside.tags.items (length texts) = rw (length_parts c.self.inside.bytes.items 0 c.self.inside.ends.items) c.self.invariant.1 in
    rw (all c, put c) (one_more_part texts (map (λ s. s.now) c.args.texts.now) 0 c.self.inside.tags.items rise ∙ ap (λ ts. ts ++ map (λ s. s.now) c.args.texts.now ∷ []) c.self.view_is)
