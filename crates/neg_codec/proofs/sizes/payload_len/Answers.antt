use Rattle.std.proofs.Common.{rules, ◌≡◌, ℕ, List, ap, subst, sym, ◌∙◌, length, arith}
use Rattle.std.specs.Prelude.{All}
use Rattle.neg_varint.specs.Spelling.{spelling}
use Rattle.item_key.specs.declared.Id.{Id}
use Rattle.item_key.specs.Keys.{IsId}
use Rattle.neg_codec.specs.Ranges.{Claim, ids, claim_of}
use Rattle.neg_codec.specs.Encoding.{claim_text, IsShort}
use Rattle.neg_codec.proofs.Lengths.{skip_len, print_len, ids_parts}
use Rattle.neg_codec.proofs.sizes.payload_len.Goals as goal

said : (p q : Claim) → p ≡ q → length (claim_text p) ≡ length (claim_text q)
said p q e = ap (λ (x : Claim). length (claim_text x)) e

pub returns-in-Skip-clause-value : goal.returns-in-Skip-clause-value
returns-in-Skip-clause-value c = sym (said _ _ (ap claim_of c.in-Skip.is) ∙ skip_len)

pub returns-in-Print-clause-value : goal.returns-in-Print-clause-value
returns-in-Print-clause-value c = omega (arith, said _ _ (ap claim_of c.in-Print.is), print_len c.in-Print.print, c.print_has_its_length.ensures.0)

fits : (c : goal.After-len-in-Ids) → All IsId c.in-Ids.list.items
fits c = subst (λ (list : List Id). All IsId list) c.deref.ensures.value c.ids_have_their_lengths.ensures

pub returns-in-Ids-clause-value : goal.returns-in-Ids-clause-value
returns-in-Ids-clause-value c =
    let all : length (claim_text (claim_of c.args.payload.now)) ≡ length (claim_text (ids c.in-Ids.list.items)) = said _ _ (ap claim_of c.in-Ids.is) in
    let parts = ids_parts c.in-Ids.list.items (fits c) in
    let first : c.len.result ≡ length c.in-Ids.list.items = search rules in
    let second : c.len-in-Ids.result ≡ length c.in-Ids.list.items = search rules in
    omega (arith, all, parts, second, c.spell-count.ensures.len, ap (λ (n : ℕ). length (spelling n)) first)

pub returns-in-Ids-clause-few : goal.returns-in-Ids-clause-few
returns-in-Ids-clause-few c =
    let short : IsShort (ids c.in-Ids.list.items) = subst IsShort (ap claim_of c.in-Ids.is) c.requires in
    omega (arith, short, c.len-in-Ids.ensures, c.spell-count.ensures.few)
