-- How what is put over a WebSocket goes on.
use Rattle.std.proofs.Common.{◌≡◌, ℕ, List, [], ◌++◌, Option, None, Some, Result, Ok, Err, inl, inr, refl, sym, ap, ◌∙◌, append_assoc, append-nil}
use Rattle.std.specs.Prelude.{OnOk, OnErr}
use Rattle.wire.specs.Line.{Line}
use Rattle.ws_serve.specs.Outbox.{Passes}
use Rattle.ws_serve.specs.Traffic.{Traffic, traffic_of, Says, Rests, MaySay}

pub rests_self : (t : Traffic) → Rests t t
rests_self t = record { said = refl; conn = refl; given = refl; left = refl; back = refl }

pub rests_chain : (a b c : Traffic) → Rests a b → Rests b c → Rests a c
rests_chain a b c h k =
    record { said = k.said ∙ h.said; conn = k.conn ∙ h.conn; given = k.given ∙ h.given; left = k.left ∙ h.left; back = k.back ∙ h.back }

pub says_none : (t : Traffic) → Says t t []
says_none t = record { said = sym (append-nil t.said); conn = refl; given = refl; left = refl; back = refl }

pub says_kept : (a b c : Traffic) (x : List ℕ) → Says a b x → Rests b c → Says a c x
says_kept a b c x h k =
    record { said = k.said ∙ h.said; conn = k.conn ∙ h.conn; given = k.given ∙ h.given; left = k.left ∙ h.left; back = k.back ∙ h.back }

pub says_both : (a b c : Traffic) (x y : List ℕ) → Says a b x → Says b c y → Says a c (x ++ y)
says_both a b c x y h k =
    record { said = k.said ∙ ap (λ z. z ++ y) h.said ∙ append_assoc a.said x y; conn = k.conn ∙ h.conn; given = k.given ∙ h.given; left = k.left ∙ h.left; back = k.back ∙ h.back }

module _ {S : Type 0} where
  -- the stream took more of what waits
  pub rests_passes : (l m : Line S) (back : List (List ℕ)) → Passes l m → Rests (traffic_of l back) (traffic_of m back)
  rests_passes l m back p = record { said = p.0; conn = p.1; given = p.3; left = p.2; back = refl }

  -- bytes were put
  pub says_put : (l m : Line S) (back : List (List ℕ)) (bytes : List ℕ) → m ≡ record l { output = l.output ++ bytes } → Says (traffic_of l back) (traffic_of m back) bytes
  says_put l m back bytes e =
      rw e (record { said = sym (append_assoc l.taken l.output bytes); conn = refl; given = refl; left = refl; back = refl })
