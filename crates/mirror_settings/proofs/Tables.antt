-- What stands at keys of tables.
use Rattle.std.proofs.Common.{◌≡◌, ◌≢◌, ℕ, List, codes, Bool, Bor, Option, Some, None, MatchOption, IfSome, IfNone, refl, ap, sym, subst, ◌∙◌}
use Rattle.std.specs.Bool.{Decides}
use Rattle.std.specs.Option.{is_some, option_copied}
use Rattle.toml.specs.Data.{Data, string, integer, float, boolean, datetime, array, table, Members, get_member, as_str}
use Rattle.mirror_settings.specs.declared.address.Address.{Address}
use Rattle.mirror_settings.specs.Relays.{IsAuthority, IsAsked, HasPath}

string_of : (d : Data) (t : List ℕ) → as_str d ≡ Some t → d ≡ string t
string_of (string s) t e = let same : s ≡ t = cc in ap string same
string_of (integer _) t e = absurd (cc)
string_of (float _) t e = absurd (cc)
string_of (boolean _) t e = absurd (cc)
string_of (datetime _) t e = absurd (cc)
string_of (array _) t e = absurd (cc)
string_of (table _) t e = absurd (cc)

pub text_found : (d : Data) (o : Option (Bor (List ℕ))) (at : Option Data) → option_copied o ≡ as_str d → at ≡ Some d → IfSome o (λ t. at ≡ Some (string t.now))
text_found d None at e is = tt
text_found d (Some t) at e is = is ∙ ap Some (string_of d t.now (sym e))

none_isnt : {t : List ℕ} → None ≡ Some t → ⊥
none_isnt e = cc

pub no_text : (d : Data) (o : Option (Bor (List ℕ))) (at : Option Data) → option_copied o ≡ as_str d → at ≡ Some d → IfNone o ((t : List ℕ) → at ≢ Some (string t))
no_text d (Some t) at e is = tt
no_text d None at e is = λ t there. (
    let both : Some d ≡ Some (string t) = sym is ∙ there in
    let same : d ≡ string t = cc in
    let none : None ≡ Some t = e ∙ ap as_str same in
    absurd (none_isnt none))

-- ---- paths

pub no_path : (t : Members) → get_member (codes "path") t ≡ None → HasPath t (codes "/")
no_path t e = subst (λ o. MatchOption o (codes "/" ≡ codes "/") (λ d. (d ≡ string (codes "/")) × IsAsked (codes "/"))) (sym e) refl

pub a_path : (t : Members) (d : Data) (p : List ℕ) → get_member (codes "path") t ≡ Some d → as_str d ≡ Some p → IsAsked p → HasPath t p
a_path t d p e text asked = subst (λ o. MatchOption o (p ≡ codes "/") (λ d. (d ≡ string p) × IsAsked p)) (sym e) (string_of d p text, asked)

pub path_is : (t : Members) (d : Data) (p : List ℕ) → get_member (codes "path") t ≡ Some d → HasPath t p → (as_str d ≡ Some p) × IsAsked p
path_is t d p e h =
    let is : (d ≡ string p) × IsAsked p = subst (λ o. MatchOption o (p ≡ codes "/") (λ d. (d ≡ string p) × IsAsked p)) e h in
    (ap as_str is.0, is.1)

-- ---- hosts

pub authority_there : (h : List ℕ) (o : Option (Bor (List ℕ) × ℕ)) (b : Bool) → b ≡ is_some o → IfSome o (λ p. IsAuthority h (record { host = p.0.now; port = p.1 }))
    → IfNone o ((a : Address) → ¬ IsAuthority h a) → Decides b ((a : Address) × IsAuthority h a)
authority_there h None b e found none = (λ y. absurd (cc), λ a. absurd (none a.0 a.1))
authority_there h (Some p) b e found none = (λ y. (record { host = p.0.now; port = p.1 }, found), λ a. e)
