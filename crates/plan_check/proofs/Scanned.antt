-- What a text's lines were seen to be.
use Rattle.std.proofs.Common.{◌≡◌, ◌≢◌, ◌⊎◌, ℕ, ◌+◌, ◌<◌, true, Bool, List, [], ◌∷◌, ◌++◌, length, map, Option, Some, None, Result, Ok, Err, inl, inr, refl, sym, ap, ◌∙◌, subst, arith}
use Rattle.std.specs.Prelude.{IfOk, IfErr}
use Rattle.std.specs.List.{All}
use Rattle.sharing.specs.declared.TheConstants.{RELAYS}
use Rattle.sharing.specs.Offers.{id_cmp}
use Rattle.plan_check.specs.declared.faults.PlanFault.{PlanFault}
use Rattle.plan_check.specs.declared.faults.PlanFault.TheVariants.{Order}
use Rattle.plan_check.specs.File.{File}
use Rattle.plan_check.specs.Lines.{first_out, first_place, rises, misplaced_at, misplaced_fault, number_of}
use Rattle.plan_check.specs.TextLines.{lines_of, ended, FirstIsNot}
use Rattle.plan_check.specs.PlanText.{header_line, give_line, plan_text, IsGive, IsOfForm, IsTextOf}
use Rattle.plan_check.specs.PlanParts.{IsHead, AreOfferLines, AreGiveLines, IsBaseLine, IsOfferLine, IsGiveLine, IsGroupLine, IsTail}
use Rattle.plan_check.specs.PlanReading.{IsFirstWrong, IsOutOfOrder, IsTextFault}
use Rattle.plan_check.proofs.Files.{file_ok, risen, gives_ascend, place_same}
use Rattle.plan_check.proofs.InOrder.{form_ok, none_out_back, rising_back}
use Rattle.plan_check.proofs.FormLemmas.{based, offered, given, grouped, plan_lines-is, of_kind, behind_gives, wrong_at_group, wrong_at_end}
use Rattle.plan_check.proofs.Spans.{peel}
use Rattle.plan_check.proofs.TextLemmas.{text_by_lines}
use Rattle.plan_check.proofs.OneText.{same_records, same_give, same_group, one_file_each}
use Rattle.plan_check.proofs.ReadLemmas.{no_fault, one_fault_each}

module _ (lines l1 l2 l3 : List (List ℕ)) (nb no ng : ℕ) (ob oo og : Option ℕ) (head : IsHead lines l1 nb ob) (offers : AreOfferLines l1 l2 no oo) (gives : AreGiveLines l2 l3 ng og) where
  abbrev pub seen : List ℕ → File
  seen group = record { bases = head.bases; offers = offers.records; gives = gives.records; group = group }

  behind : l1 ≡ map offered offers.records ++ (map given gives.records ++ l3)
  behind = offers.told ∙ ap (λ t. map offered offers.records ++ t) gives.told

  all_told : (rest : List (List ℕ)) → l3 ≡ rest → lines ≡ ended (header_line head.bases) ∷ (map based head.bases ++ (map offered offers.records ++ (map given gives.records ++ rest)))
  all_told rest e = head.told ∙ ap (λ t. ended (header_line head.bases) ∷ (map based head.bases ++ t)) (behind ∙ ap (λ t. map offered offers.records ++ (map given gives.records ++ t)) e)

  no_base_first : (bs : List (ℕ × ℕ)) → (bs ≡ []) ⊎ FirstIsNot IsBaseLine l1 → (bs ≡ []) ⊎ FirstIsNot IsBaseLine (map offered offers.records ++ (map given gives.records ++ l3))
  no_base_first bs (inl none) = inl none
  no_base_first bs (inr first) = inr (subst (FirstIsNot IsBaseLine) behind first)

  pub group_wrong : (n : ℕ) → n ≡ nb + no + ng + 2 → FirstIsNot IsGroupLine l3 → IsFirstWrong lines n
  group_wrong n at none =
      wrong_at_group head.bases offers.records gives.records head.form offers.form gives.form l3 lines n (all_told l3 refl) (omega (arith, at, head.counted, offers.counted, gives.counted))
      (no_base_first head.bases head.last) (subst (FirstIsNot IsOfferLine) gives.told offers.last) gives.last none

  pub end_wrong : (group : List ℕ) (rest : List (List ℕ)) (n : ℕ) → n ≡ nb + no + ng + 3 → All (λ r. r < RELAYS) group → l3 ≡ grouped group ∷ rest → rest ≢ [] → IsFirstWrong lines n
  end_wrong group rest n at small e some =
      wrong_at_end head.bases offers.records gives.records head.form offers.form gives.form group rest lines n small (all_told (grouped group ∷ rest) e) (omega (arith, at, head.counted, offers.counted, gives.counted)) some

  pub seen_form : (group : List ℕ) → All (λ r. r < RELAYS) group → IsOfForm (seen group)
  seen_form group small = record { bases = head.form; offers = offers.form; gives = gives.form; group = small }

  pub seen_text : (text group : List ℕ) → lines ≡ lines_of text → l3 ≡ grouped group ∷ [] → text ≡ plan_text (seen group)
  seen_text text group e last = text_by_lines text (seen group) (sym e ∙ all_told (grouped group ∷ []) last ∙ sym (plan_lines-is (seen group)))

  pub place_is : (group : List ℕ) (ok : Bool) → ok ≡ rises group → first_place nb no ng ob oo og ok ≡ misplaced_at (seen group)
  place_is group ok e = place_same (sym head.counted) (sym offers.counted) (sym gives.counted) head.first offers.first gives.first e

  pub seen_whole : (text group : List ℕ) (ok : Bool) → lines ≡ lines_of text → l3 ≡ grouped group ∷ [] → All (λ r. r < RELAYS) group → ok ≡ rises group → first_place nb no ng ob oo og ok ≡ None
      → (file : File) × IsTextOf text file × (length file.offers ≡ no)
  seen_whole text group ok e last small r none =
      let form : IsOfForm (seen group) = seen_form group small in
      (seen group, record { form = form; ordered = file_ok (seen group) (form_ok (seen group) form) (sym (place_is group ok r) ∙ none); is = seen_text text group e last }, offers.counted)

  pub seen_disorder : (text group : List ℕ) (ok : Bool) (place : ℕ) → lines ≡ lines_of text → l3 ≡ grouped group ∷ [] → All (λ r. r < RELAYS) group → ok ≡ rises group → first_place nb no ng ob oo og ok ≡ Some place
      → IsOutOfOrder text (Order (number_of place))
  seen_disorder text group ok place e last small r found = (seen group, seen_form group small, seen_text text group e last, ap misplaced_fault (sym (place_is group ok r) ∙ found))

-- gives and a group, in order
pub tail_seen : (lines rest more : List (List ℕ)) (count : ℕ) (out : Option ℕ) (group : List ℕ) (ok : Bool) → AreGiveLines lines rest count out → out ≡ None → All (λ r. r < RELAYS) group → rest ≡ grouped group ∷ more → ok ≡ rises group → ok ≡ true → more ≡ [] → IsTail lines
tail_seen lines rest more count out group ok gives none small e r risen_ok nil = record {
  gives = gives.records;
  group = group;
  form = gives.form;
  ascend = gives_ascend gives.records (sym gives.first ∙ none);
  relays = risen group small (sym r ∙ risen_ok);
  told = gives.told ∙ ap (λ t. map given gives.records ++ t) (e ∙ ap (λ t. grouped group ∷ t) nil);
}

-- what else is gives and a group, in order, goes on with the same group
tail_rest : (lines rest : List (List ℕ)) (count : ℕ) (out : Option ℕ) → AreGiveLines lines rest count out → (tail : IsTail lines) → (out ≡ None) × (rest ≡ grouped tail.group ∷ [])
tail_rest lines rest count out gives tail =
    let same = peel IsGiveLine (map given gives.records) (map given tail.gives) rest (grouped tail.group ∷ []) (of_kind give_line IsGive gives.records gives.form) (of_kind give_line IsGive tail.gives tail.form) gives.last (behind_gives tail.group tail.relays.small) (sym gives.told ∙ tail.told) in
    let records : gives.records ≡ tail.gives = same_records given IsGive same_give gives.records tail.gives gives.form tail.form same.0 in
    (gives.first ∙ ap (first_out id_cmp (λ g. g.0) (λ _. true) None 0) records ∙ none_out_back id_cmp (λ g. g.0) (λ _. true) None 0 tail.gives tail.ascend (λ k d lt. refl), same.1)

pub tail_whole : (lines rest more : List (List ℕ)) (count : ℕ) (out : Option ℕ) (group : List ℕ) (ok : Bool) → AreGiveLines lines rest count out → All (λ r. r < RELAYS) group → rest ≡ grouped group ∷ more → ok ≡ rises group → IsTail lines → (out ≡ None) × (ok ≡ true) × (more ≡ [])
tail_whole lines rest more count out group ok gives small e r tail =
    let last = tail_rest lines rest count out gives tail in
    let both : grouped group ∷ more ≡ grouped tail.group ∷ [] = sym e ∙ last.1 in
    let line : grouped group ≡ grouped tail.group = cc in
    let end : more ≡ [] = cc in
    (last.0, r ∙ ap rises (same_group group tail.group small tail.relays.small line) ∙ rising_back None tail.group tail.relays.ascend, end)

pub no_tail : (lines rest : List (List ℕ)) (count : ℕ) (out : Option ℕ) → AreGiveLines lines rest count out → FirstIsNot IsGroupLine rest → ¬ IsTail lines
no_tail lines rest count out gives none tail =
    subst (FirstIsNot IsGroupLine) (tail_rest lines rest count out gives tail).1 none (tail.group, tail.relays.small, refl)

-- ---- what is answered of a text
module _ (text : List ℕ) where
  pub only_count : (result : Result ℕ PlanFault) → IfOk result (λ n. (file : File) × IsTextOf text file × (length file.offers ≡ n)) → IfErr result (IsTextFault text) → (file : File) → IsTextOf text file → result ≡ Ok (length file.offers)
  only_count (Ok n) ok err file told = ap Ok (sym ok.2 ∙ ap (λ (f : File). length f.offers) (one_file_each ok.0 file ok.1.form told.form (sym ok.1.is ∙ told.is)))
  only_count (Err fault) ok err file told = absurd (no_fault text file fault told err)

  pub only_fault : (result : Result ℕ PlanFault) → IfOk result (λ n. (file : File) × IsTextOf text file × (length file.offers ≡ n)) → IfErr result (IsTextFault text) → (fault : PlanFault) → IsTextFault text fault → result ≡ Err fault
  only_fault (Ok n) ok err fault is = absurd (no_fault text ok.0 fault ok.1 is)
  only_fault (Err other) ok err fault is = ap Err (one_fault_each text other fault err is)
