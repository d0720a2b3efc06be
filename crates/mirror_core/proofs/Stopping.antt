-- Where a part has no table, all its sessions ran all the same.
use Rattle.std.proofs.Common.{◌≡◌, ℕ, List, [], ◌∷◌, ◌++◌, length, get_or, sym, ap, ◌∙◌, arith}
use Rattle.std.specs.Prelude.{Result, Ok, Err, IfOk, IfErr, slice_set}
use Rattle.item_key.specs.declared.Item.{Item}
use Rattle.neg_session.specs.Exchange.{Exchange}
use Rattle.neg_session.specs.declared.limits.SessionLimits.{SessionLimits}
use Rattle.mirror_core.specs.declared.end.End.{End}
use Rattle.mirror_core.specs.declared.part.Part.{Part}
use Rattle.mirror_core.specs.declared.fault.PartFault.{PartFault}
use Rattle.mirror_core.specs.declared.fault.PartFault.TheVariants.{TableFull, Memory}
use Rattle.neg_session.specs.Ran.{Ran}
use Rattle.mirror_core.specs.Ends.{EachRan, result_of}
use Rattle.mirror_core.specs.Tables.{IsTableOf}
use Rattle.mirror_core.specs.Full.{NeedTooMany, Stopped}
use Rattle.mirror_core.proofs.Three.{AllThree-append}
use Rattle.mirror_core.proofs.Full.{too_many_front, too_many_back}

module _ {P : Type 0} (log : P → List Exchange) (faults : P → ℕ) (becomes : P → P → Type 0) (own : List Item) (limits : SessionLimits) where
  abbrev pub AllRan : List P → List P → Type 0
  AllRan olds news = (ends : List End) × EachRan log faults becomes own limits olds news ends

  -- whatever the answer of a part, its sessions ran
  pub ran_anyway : (start : ℕ) (olds news : List P) (r : Result Part PartFault) → IfOk r (λ part. EachRan log faults becomes own limits olds news part.ends.items × (part.first ≡ start) × IsTableOf part.first part.ends.items part.table)
      → IfErr r (λ f. Stopped log faults becomes own limits olds news (f ≡ TableFull)) → AllRan olds news
  ran_anyway start olds news (Ok part) h k = (part.ends.items, h.0)
  ran_anyway start olds news (Err f) h k = (k.ends, k.ran)

  module _ (xs xs' ys ys' : List P) (full : Type 0) where
    pub front_stops : Stopped log faults becomes own limits xs ys full → AllRan xs' ys' → Stopped log faults becomes own limits (xs ++ xs') (ys ++ ys') full
    front_stops s w = record { ends = s.ends ++ w.0; ran = AllThree-append _ xs xs' ys ys' s.ends w.0 s.ran w.1; too_many = λ f. too_many_front s.ends w.0 (s.too_many f) }

    pub back_stops : AllRan xs ys → Stopped log faults becomes own limits xs' ys' full → Stopped log faults becomes own limits (xs ++ xs') (ys ++ ys') full
    back_stops w s = record { ends = w.0 ++ s.ends; ran = AllThree-append _ xs xs' ys ys' w.0 s.ends w.1 s.ran; too_many = λ f. too_many_back w.0 s.ends (s.too_many f) }

    pub both_stop : (zs zs' : List End) → EachRan log faults becomes own limits xs ys zs → EachRan log faults becomes own limits xs' ys' zs' → (full → NeedTooMany (zs ++ zs')) → Stopped log faults becomes own limits (xs ++ xs') (ys ++ ys') full
    both_stop zs zs' h k many = record { ends = zs ++ zs'; ran = AllThree-append _ xs xs' ys ys' zs zs' h k; too_many = many }

  -- one session, with the only peer
  pub one_ran : (olds : List P) (old new : P) (end : End) → length olds ≡ 1
      → Ran own limits (log (get_or olds 0 old)) (log new) (faults (get_or olds 0 old)) (faults new) (result_of end) × becomes (get_or olds 0 old) new → EachRan log faults becomes own limits olds (slice_set olds 0 new) (end ∷ [])
  one_ran [] old new end one h = absurd (omega arith)
  one_ran (x ∷ y ∷ zs) old new end one h = absurd (omega arith)
  one_ran (x ∷ []) old new end one h = (h, tt)

  -- one session, for whose end there was no memory
  pub one_stops : (olds : List P) (old new : P) (end : End) (f : PartFault) → f ≡ Memory → length olds ≡ 1
      → Ran own limits (log (get_or olds 0 old)) (log new) (faults (get_or olds 0 old)) (faults new) (result_of end) × becomes (get_or olds 0 old) new → Stopped log faults becomes own limits olds (slice_set olds 0 new) (f ≡ TableFull)
  one_stops [] old new end f e one h = absurd (cc)
  one_stops (x ∷ y ∷ zs) old new end f e one h = absurd (omega arith)
  one_stops (x ∷ []) old new end f e one h = record {
    ends = end ∷ [];
    ran = (h, tt);
    too_many = λ t. let both : Memory ≡ TableFull = sym e ∙ t in absurd (cc);
  }

pub if_full : (r : Result Part PartFault) (zs : List End) (S : PartFault → Type 0) → ((f : PartFault) → (f ≡ TableFull → NeedTooMany zs) → S f) → (r ≡ Err TableFull → NeedTooMany zs) → IfErr r S
if_full (Ok part) zs S h k = tt
if_full (Err f) zs S h k = h f (λ e. k (ap Err e))
