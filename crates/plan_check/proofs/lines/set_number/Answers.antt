use Rattle.std.proofs.Common.{◌≡◌, ◌+◌, ◌-◌, ◌++◌, ◌∷◌, [], ℕ, length, take, drop, decimal, take_all, length-drop, ap, ◌∙◌, append_assoc, arith}
use Rattle.plan_check.proofs.lines.set_number.Goals as goal

pub returns : goal.returns
returns c =
    let first : ℕ = c.set_digits-first.result in
    let buffer = c.set_digits-first.new.buffer in
    let whole : take (20 - first) (drop first buffer) ≡ decimal c.args.number = take_all (20 - first) (drop first buffer) (omega (arith, length-drop first buffer, c.set_digits-first.array_long)) ∙ c.set_digits-first.ensures.digits in
    record {
      text =
          c.set_word.ensures.text ∙ ap (λ t. take c.set_word-space.result c.set_word-space.new.line ++ t) whole
          ∙ ap (λ t. t ++ decimal c.args.number) c.set_word-space.ensures.text ∙ append_assoc (take c.args.at c.args.line.now) (32 ∷ []) (decimal c.args.number);
      end = c.set_word.ensures.end ∙ ap (λ t. c.set_word-space.result + length t) whole ∙ ap (λ n. n + length (decimal c.args.number)) c.set_word-space.ensures.end ∙ omega arith;
      room = c.set_word.ensures.room ∙ c.set_word-space.ensures.room;
    }
