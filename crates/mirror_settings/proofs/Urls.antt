-- Texts that are parted at a byte, and hosts.
use Rattle.std.proofs.Common.{◌≡◌, ℕ, suc, ◌<◌, ◌^◌, List, [], ◌∷◌, ◌++◌, length, get_or, drop, codes, decimal, All, Option, Some, None, IfSome, IfNone, inl, inr, refl, ap, sym, subst, arith, ◌∙◌}
use Rattle.std.proofs.Math.Seq.{get_or-append_seam}
use Rattle.std.proofs.lemmas.List.{length-append, append_cancel_left}
use Rattle.std.specs.Str.Pattern.{FindsTextPrefix}
use Rattle.mirror_settings.specs.declared.address.Address.{Address}
use Rattle.mirror_settings.specs.declared.relay.Relay.{Relay}
use Rattle.mirror_settings.specs.Addresses.{spelled}
use Rattle.mirror_settings.specs.Relays.{Lacks, IsGraphic, HasScheme, IsAuthority, IsUrl}
use Rattle.mirror_settings.proofs.Colons.{same_parts, port_has_none}

pub has_it : (c : ℕ) (front back text : List ℕ) → text ≡ front ++ c ∷ back → Lacks c text → ⊥
has_it c front back text e none =
    none (length front) (omega (arith, ap length e, length-append front (c ∷ back))) (ap (λ s. get_or s (length front) 0) e ∙ get_or-append_seam front c back 0)

-- the first such byte parts a text in one way
pub same_front : (c : ℕ) (h d k e : List ℕ) → h ++ c ∷ d ≡ k ++ c ∷ e → Lacks c h → Lacks c k → h ≡ k
same_front c [] d [] e same n m = refl
same_front c [] d (x ∷ k) e same n m = let head : x ≡ c = cc in absurd (m 0 (omega arith) head)
same_front c (x ∷ h) d [] e same n m = let head : x ≡ c = cc in absurd (n 0 (omega arith) head)
same_front c (x ∷ h) d (y ∷ k) e same n m =
    let head : x ≡ y = cc in
    let tail : h ++ c ∷ d ≡ k ++ c ∷ e = cc in
    rw (head, same_front c h d k e tail (λ i below. n (suc i) (omega arith)) (λ i below. m (suc i) (omega arith))) refl

-- addresses that are spelled alike have one host
pub same_host : (a b : Address) → a.port < 2 ^ 16 → b.port < 2 ^ 16 → spelled a ≡ spelled b → a.host ≡ b.host
same_host a b low less e = (same_parts a.host (decimal a.port) b.host (decimal b.port) e (port_has_none a.port (omega arith)) (port_has_none b.port (omega arith))).0

-- ---- URLs

-- a text that was stripped of its beginning
pub stripped : (p text rest : List ℕ) (n : ℕ) → FindsTextPrefix p text (Some n) → rest ≡ drop n text → text ≡ p ++ rest
stripped p text rest n found e = rw e found.1

pub if_some : (o : Option Relay) (P Q : Relay → Type 0) → ((r : Relay) → P r → Q r) → IfSome o P → IfSome o Q
if_some None P Q f h = tt
if_some (Some r) P Q f h = f r h

pub if_none : (o : Option Relay) (P Q : Type 0) → (P → Q) → IfNone o P → IfNone o Q
if_none None P Q f h = f h
if_none (Some r) P Q f h = tt

pub of_none : (o : Option Relay) (P : Type 0) → o ≡ None → IfNone o P → P
of_none None P e h = h
of_none (Some r) P e h = absurd (cc)

pub url_with_path : (text rest host after : List ℕ) (r : Relay) → All IsGraphic text → text ≡ codes "ws://" ++ rest → rest ≡ host ++ 47 ∷ after → Lacks 47 host
    → IsAuthority host r.via → r.host ≡ host → r.path ≡ 47 ∷ after → IsUrl text r
url_with_path text rest host after r graphic is parts lacks authority named path = (
  graphic,
  subst (Lacks 47) (sym named) lacks,
  subst (λ h. IsAuthority h r.via) (sym named) authority,
  (after, path),
  inl (rw (named, path) (is ∙ ap (λ s. codes "ws://" ++ s) parts)),
)

pub url_alone : (text rest : List ℕ) (r : Relay) → All IsGraphic text → text ≡ codes "ws://" ++ rest → Lacks 47 rest → IsAuthority rest r.via → r.host ≡ rest → r.path ≡ 47 ∷ [] → IsUrl text r
url_alone text rest r graphic is lacks authority named path =
    (graphic, subst (Lacks 47) (sym named) lacks, subst (λ h. IsAuthority h r.via) (sym named) authority, ([], path), inr (rw named is, path))

pub no_url_with_path : (text rest host after : List ℕ) → text ≡ codes "ws://" ++ rest → rest ≡ host ++ 47 ∷ after → Lacks 47 host → ((a : Address) → ¬ IsAuthority host a)
    → (r : Relay) → ¬ IsUrl text r
no_url_with_path text rest host after is parts lacks none r = λ url. elim url.4 [
  | inl e ↦
      (let same : rest ≡ r.host ++ r.path = append_cancel_left (codes "ws://") rest (r.host ++ r.path) (sym is ∙ e) in
      let front : r.host ≡ host = same_front 47 r.host url.3.0 host after (ap (λ s. r.host ++ s) (sym url.3.1) ∙ sym same ∙ parts) url.1 lacks in
      none r.via (subst (λ h. IsAuthority h r.via) front url.2))
  | inr e ↦
      (let same : rest ≡ r.host = append_cancel_left (codes "ws://") rest r.host (sym is ∙ e.0) in
      has_it 47 host after r.host (sym same ∙ parts) url.1)
]

pub no_url_alone : (text rest : List ℕ) → text ≡ codes "ws://" ++ rest → Lacks 47 rest → ((a : Address) → ¬ IsAuthority rest a) → (r : Relay) → ¬ IsUrl text r
no_url_alone text rest is lacks none r = λ url. elim url.4 [
  | inl e ↦
      (let same : rest ≡ r.host ++ r.path = append_cancel_left (codes "ws://") rest (r.host ++ r.path) (sym is ∙ e) in
      has_it 47 r.host url.3.0 rest (same ∙ ap (λ s. r.host ++ s) url.3.1) lacks)
  | inr e ↦
      (let same : rest ≡ r.host = append_cancel_left (codes "ws://") rest r.host (sym is ∙ e.0) in
      none r.via (subst (λ h. IsAuthority h r.via) (sym same) url.2))
]

has_scheme : (text rest : List ℕ) → text ≡ codes "ws://" ++ rest → HasScheme text
has_scheme text rest e = (codes "ws", rest, e)

pub url_has_scheme : (text : List ℕ) (r : Relay) → IsUrl text r → HasScheme text
url_has_scheme text r url = elim url.4 [
  | inl e ↦ has_scheme text (r.host ++ r.path) e
  | inr e ↦ has_scheme text r.host e.0
]
