-- How a session goes on.
use Rattle.std.proofs.Common.{◌≡◌, ℕ, List, [], ◌∷◌, ◌++◌, Bool, true, false, Option, None, Some, Result, Ok, Err, OnOk, OnErr, Vec, refl}
use Rattle.std.specs.Prelude.{IfOk, IfSome}
use Rattle.std.specs.declared.alloc.Global.{Global}
use Rattle.neg_session.specs.Exchange.{Exchange, exchange}
use Rattle.nostr_filter.specs.declared.filter.Filter.{Filter}
use Rattle.nostr_wire.specs.declared.messages.FromRelay.{FromRelay}
use Rattle.nostr_wire.specs.Forms.{relay_form}
use Rattle.websocket.specs.declared.protocol.config.Role.TheVariants.{Client}
use Rattle.websocket.specs.declared.protocol.config.WebSocketConfig.{WebSocketConfig}
use Rattle.wire.specs.Line.{Line, Talk, fresh, talk_of}
use Rattle.wire.specs.Talk.{Grows, Listened}
use Rattle.wire.proofs.Growing.{hears_later, prefix_self}
use Rattle.ws_socket.specs.declared.fault.LinkFault.{LinkFault}
use Rattle.ws_link.specs.declared.link.Link.{Link}
use Rattle.ws_link.specs.declared.peer.Part.{Part}
use Rattle.ws_link.specs.Held.{noted, given_by, taken_by, left_of, Stands}
use Rattle.ws_link.specs.Parts.{Tells, MayAnswer}
use Rattle.ws_link.specs.Messages.{Hears, IsSaid}
use Rattle.ws_link.specs.Spoken.{Exchanged, IsClient, Spoken, WasSpoken}
use Rattle.ws_link.specs.Wired.{Wired}
use Rattle.ws_link.proofs.Hearing.{heard_message, listened_hears}
use mathlib.Core.List.{IsPrefix}

-- ---- messages

pub may_answer : (r : Result (Option (Vec ℕ Global)) LinkFault) (old new : Talk) (message : FromRelay) (part : Part) → Hears (IsSaid (relay_form message)) old new → Tells message part
    → IfOk r (λ o. IfSome o (λ answer. part ≡ Part.Answer answer)) → IfOk r (MayAnswer old new)
may_answer (Err e) old new message part h t k = tt
may_answer (Ok None) old new message part h t k = listened_hears (IsSaid (relay_form message)) old new h
may_answer (Ok (Some answer)) old new message part h t k =
    let told = rw k at t in
    let heard = heard_message old new (relay_form message) h in
    rw told at heard

pub answers_later : (l m n : Talk) (answer : Vec ℕ Global) → Listened l m → MayAnswer m n (Some answer) → MayAnswer l n (Some answer)
answers_later l m n answer h k = (k.0, hears_later l m n k.0 h k.1, k.2)

-- ---- exchanges

left_none : (es : List Exchange) → left_of None es ≡ None
left_none [] = refl
left_none (e ∷ es) = refl

left_more : (opens : Option Filter) (es : List Exchange) (e : Exchange) → None ≡ left_of opens (es ++ e ∷ [])
left_more opens [] e = refl
left_more opens (x ∷ es) e = refl

spoken_more : (opens : Option Filter) (es : List Exchange) (old mid new : Talk) (e : Exchange) → Spoken opens old es mid → Exchanged (left_of opens es) mid e new → Spoken opens old (es ++ e ∷ []) new
spoken_more opens [] old mid new e h k = (new, rw h at k, refl)
spoken_more opens (x ∷ es) old mid new e h k = (h.0, h.1, spoken_more None es h.0 mid new e h.2 (rw (left_none es) k))

-- a session that is still to be opened, and one that never is
pub stands_first : (noting : List (Filter × Bool)) (log : List Exchange) (wire : Talk) (filter : Filter) → noting ≡ (filter, true) ∷ [] → log ≡ [] → IsClient wire
    → (first : Talk) × IsClient first × Spoken (noted noting) first log wire × (Some filter ≡ left_of (noted noting) log)
stands_first noting log wire filter e f h = rw (e, f) (wire, h, refl, refl)

pub stands_nowhere : (noting : List (Filter × Bool)) (log : List Exchange) (given taken : List ℕ) → noting ≡ [] → log ≡ [] → given ≡ [] → taken ≡ []
    → (first : Talk) × (last : Talk) × IsClient first × Spoken (noted noting) first log last × IsPrefix last.given given × IsPrefix last.taken taken
stands_nowhere noting log given taken e f g h =
    let config : WebSocketConfig = record { max_message_size = None; max_frame_size = None; accept_unmasked_frames = false } in
    let client : Talk = fresh Client config [] in
    rw (e, f, g, h) (client, client, (config, [], refl), refl, ([], refl), ([], refl))

module _ {S : Type 0} where
  pub was_spoken : (p : Wired Exchange) (left : Option Filter) (wire : Option (Line S)) (given taken : List ℕ)
      → p.given ≡ given_by wire given → p.taken ≡ taken_by wire taken → Stands p.opens p.log left wire given taken → WasSpoken p
  was_spoken p left None given taken e f h =
      record { first = h.0; last = h.1; fresh = h.2; spoken = h.3; given = rw e h.4; taken = rw f h.5 }
  was_spoken p left (Some wire) given taken e f h =
      record { first = h.0; last = talk_of wire; fresh = h.1; spoken = h.2; given = rw e (prefix_self wire.given); taken = rw f (prefix_self wire.taken) }

module _ {S K : Type 0} where
  -- the wire is put back behind a question, or let go
  pub spoken_stands : (r : Result (Vec ℕ Global) LinkFault) (old new : Link S K Exchange) (opens left after : Option Filter) (log : List Exchange) (wire wire2 : Line S) (given taken asked : List ℕ)
      → Stands opens log left (Some wire) given taken → IfOk r (λ answer. Exchanged left (talk_of wire) (exchange asked answer.items) (talk_of wire2))
      → IfOk r (λ answer. old.log.items ≡ log ++ exchange asked answer.items ∷ []) → OnErr r (old.log.items ≡ log) → Grows (talk_of wire) (talk_of wire2) → old.wire ≡ None → after ≡ None
      → OnOk r (new ≡ record old { wire = Some wire2 }) → OnErr r (new ≡ record old { given = wire2.given; taken = wire2.taken })
      → Stands opens new.log.items after new.wire new.given new.taken
  spoken_stands (Ok answer) old new opens left after log wire wire2 given taken asked was exchanged logged kept grows out none ok err =
      rw (ok, logged, none) (was.0, was.1, spoken_more opens log was.0 (talk_of wire) (talk_of wire2) (exchange asked answer.items) was.2 (rw was.3 at exchanged), left_more opens log (exchange asked answer.items))
  spoken_stands (Err f) old new opens left after log wire wire2 given taken asked was exchanged logged kept grows out none ok err =
      rw (err, out, kept) (was.0, talk_of wire, was.1, was.2, grows.0, grows.1)
