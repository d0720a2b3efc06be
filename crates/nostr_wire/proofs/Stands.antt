-- What elements come to that are to be filters, with one more.
use Rattle.std.proofs.Common.{◌≡◌, ◌≢◌, ℕ, Vec, Global, List, [], ◌∷◌, ◌++◌, map, Option, Bool, true, false, ◌&&◌, refl, inl, inr, ap, ◌∙◌}
use Rattle.std.proofs.lemmas.Bool.{and_parts}
use Rattle.serde_json.specs.Data.{Data}
use Rattle.nostr_filter.specs.declared.filter.Filter.{Filter}
use Rattle.nostr_wire.specs.declared.fault.WireFault.{WireFault}
use Rattle.nostr_wire.specs.declared.streaming.Few.{Few}
use Rattle.nostr_wire.specs.declared.streaming.Few.TheVariants.{Kept, NoFilter, NoObject}
use Rattle.nostr_wire.specs.Elements.{a_sub, a_filter, sub, filter, part_of, has_type, Says, SaysNo, IsFaultOf}
use Rattle.nostr_wire.specs.Forms.{request_parts}
use Rattle.nostr_wire.specs.Reading.{kept_filters, AreRead, AreRefused, fits, IsFirstFault}
use Rattle.nostr_wire.specs.Stream.{filter_parts, Stand}
use Rattle.nostr_wire.proofs.Few.{kept_none}

-- as many objects as elements fit
pub fits_with : (ds : List Data) (d : Data) → fits (filter_parts ds) ds ≡ true → has_type a_filter d ≡ true → fits (filter_parts (ds ++ d ∷ [])) (ds ++ d ∷ []) ≡ true
fits_with [] d all one = rw one refl
fits_with (e ∷ ds) d all one = let p = and_parts (has_type a_filter e) _ all in rw (p.0, fits_with ds d p.1 one) refl

and_no : (b : Bool) → (b && false) ≡ false
and_no true = refl
and_no false = refl

pub misfit_last : (ds : List Data) (d : Data) → has_type a_filter d ≡ false → fits (filter_parts (ds ++ d ∷ [])) (ds ++ d ∷ []) ≡ false
misfit_last [] d apart = rw apart refl
misfit_last (e ∷ ds) d apart = rw (misfit_last ds d apart) (and_no (has_type a_filter e))

misfit_both : (e : Data) (ds : List Data) (d : Data) (b : Bool) → has_type a_filter e ≡ b → (b && fits (filter_parts ds) ds) ≡ false
    → (fits (filter_parts ds) ds ≡ false → fits (filter_parts (ds ++ d ∷ [])) (ds ++ d ∷ []) ≡ false) → (b && fits (filter_parts (ds ++ d ∷ [])) (ds ++ d ∷ [])) ≡ false
misfit_both e ds d true is apart more = more apart
misfit_both e ds d false is apart more = refl

pub misfit_with : (ds : List Data) (d : Data) → fits (filter_parts ds) ds ≡ false → fits (filter_parts (ds ++ d ∷ [])) (ds ++ d ∷ []) ≡ false
misfit_with [] d apart = absurd (cc)
misfit_with (e ∷ ds) d apart = misfit_both e ds d (has_type a_filter e) refl apart (misfit_with ds d)

pub read_with : (fs : List Filter) (ds : List Data) (f : Filter) (d : Data) → AreRead (filter_parts ds) (map filter fs) ds → Says d (filter f)
    → AreRead (filter_parts (ds ++ d ∷ [])) (map filter (fs ++ f ∷ [])) (ds ++ d ∷ [])
read_with [] [] f d h g = (refl, (g, tt))
read_with [] (e ∷ ds) f d h g = absurd cc
read_with (x ∷ fs) [] f d h g = absurd h.1
read_with (x ∷ fs) (e ∷ ds) f d h g =
    let tails : map part_of (map filter fs) ≡ filter_parts ds = cc in
    let more = read_with fs ds f d (tails, h.1.1) g in
    (ap (λ ps. a_filter ∷ ps) more.0, (h.1.0, more.1))

-- the first fault stays
pub fault_with : (ds : List Data) (d : Data) (f : WireFault) → IsFirstFault (filter_parts ds) ds f → IsFirstFault (filter_parts (ds ++ d ∷ [])) (ds ++ d ∷ []) f
fault_with [] d f h = absurd h
fault_with (e ∷ ds) d f (inl here) = inl here
fault_with (e ∷ ds) d f (inr more) = inr (more.0, fault_with ds d f more.1)

-- the last is the first fault, where those before are filters
pub fault_last : (fs : List Filter) (ds : List Data) (d : Data) (f : WireFault) → AreRead (filter_parts ds) (map filter fs) ds → SaysNo a_filter d → IsFaultOf a_filter d f
    → IsFirstFault (filter_parts (ds ++ d ∷ [])) (ds ++ d ∷ []) f
fault_last fs [] d f h none is = inl (none, is)
fault_last [] (e ∷ ds) d f h none is = absurd cc
fault_last (x ∷ fs) (e ∷ ds) d f h none is =
    let tails : map part_of (map filter fs) ≡ filter_parts ds = cc in
    inr ((filter x, refl, h.1.0), fault_last fs ds d f (tails, h.1.1) none is)

-- once one is no filter or no object, an object more changes nothing
pub stays : (most : Option ℕ) (few : Few) (ds : List Data) (d : Data) → ((fs : Vec Filter Global) → few ≢ Kept fs) → has_type a_filter d ≡ true → Stand most few ds → Stand most few (ds ++ d ∷ [])
stays most (Kept fs) ds d other one h = absurd (other fs refl)
stays most NoFilter ds d other one h = (fits_with ds d h.0 one, fault_with ds d WireFault.Filter h.1)
stays most NoObject ds d other one h = misfit_with ds d h

-- ---- behind the name of a subscription

pub request_fault : (s : Data) (ds : List Data) (x : List ℕ) (f : WireFault) → has_type a_sub s ≡ true → Says s (sub x) → fits (filter_parts ds) ds ≡ true → IsFirstFault (filter_parts ds) ds f
    → AreRefused (request_parts (s ∷ ds)) (s ∷ ds) f
request_fault s [] x f named says fit h = absurd h
request_fault s (d ∷ ds) x f named says fit h = inr (rw (named, fit) refl, inr ((sub x, refl, says), h))

pub no_name_fault : (s : Data) (ds : List Data) (f : WireFault) → has_type a_sub s ≡ true → SaysNo a_sub s → IsFaultOf a_sub s f → fits (filter_parts ds) ds ≡ true → ds ≢ []
    → AreRefused (request_parts (s ∷ ds)) (s ∷ ds) f
no_name_fault s [] f named none is fit some = absurd (some refl)
no_name_fault s (d ∷ ds) f named none is fit some = inr (rw (named, fit) refl, inl (none, is))

pub request_misfit : (s : Data) (ds : List Data) → fits (filter_parts ds) ds ≡ false → fits (request_parts (s ∷ ds)) (s ∷ ds) ≡ false
request_misfit s [] h = absurd (cc)
request_misfit s (d ∷ ds) h = rw h (and_no (has_type a_sub s))

pub no_filters : (s : Data) → fits (request_parts (s ∷ [])) (s ∷ []) ≡ false
no_filters s = and_no (has_type a_sub s)

pub request_kept : (most : Option ℕ) (all fs : List Filter) (s : Data) (ds : List Data) (x : List ℕ) → fs ≢ [] → fs ≡ kept_filters most all → AreRead (filter_parts ds) (map filter all) ds → Says s (sub x)
    → AreRead (request_parts (s ∷ ds)) (sub x ∷ map filter all) (s ∷ ds)
request_kept most [] fs s [] x some kept h says = absurd (some (kept ∙ kept_none most))
request_kept most (f ∷ all) fs s [] x some kept h says = absurd (cc)
request_kept most all fs s (d ∷ ds) x some kept h says = (ap (λ ps. a_sub ∷ ps) h.0, (says, h.1))
