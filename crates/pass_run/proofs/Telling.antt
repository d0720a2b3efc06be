-- Lines put one behind another.
use Rattle.std.proofs.Common.{◌≡◌, ◌+◌, ◌-◌, ◌^◌, ◌++◌, [], ◌∷◌, ◌∙◌, ℕ, List, Option, Some, None, Bool, false, All, length, refl, sym, ap, subst, arith, flat_map}
use Rattle.std.specs.Prelude.{unwrap_or}
use Rattle.std.specs.List.{enumerate_from}
use Rattle.std.proofs.lemmas.List.{append_assoc, append-nil, length_push}
use Rattle.std.proofs.lemmas.List.Sums.{fold_push}
use Rattle.std.proofs.lemmas.List.Elements.{All-nil, All-push}
use Rattle.std.proofs.lemmas.Grind.{flat_map-append}
use Rattle.std.specs.Io.KnownBytes.{Appends}
use Rattle.mirror_settings.specs.declared.settings.Settings.{Settings}
use Rattle.pass_run.specs.declared.roster.News.{News}
use Rattle.pass_run.specs.declared.tally.Tally.{Tally}
use Rattle.pass_run.specs.Lines.{line_of, news_text, pass_text, IsStamped}
use Rattle.pass_run.specs.Passes.{Line, news_lines, Told, told_text, falls_short, last_falls_short, IsPassOf, ToldPass, TellsPass, TellsPasses}

abbrev line_text : Line → List ℕ
line_text l = line_of l.0 (news_text l.1 l.2)

pub append_nothing : (old : Option (List ℕ)) → Appends old old []
append_nothing None = tt
append_nothing (Some xs) = sym (append-nil xs)

pub append_both : (old mid new : Option (List ℕ)) (front back : List ℕ) → Appends old mid front → Appends mid new back → Appends old new (front ++ back)
append_both None mid new front back a b = tt
append_both (Some xs) None new front back a b = absurd a
append_both (Some xs) (Some ys) None front back a b = absurd b
append_both (Some xs) (Some ys) (Some zs) front back a b = b ∙ ap (λ l. l ++ back) a ∙ append_assoc xs front back

-- lines of what is new of relays were told
pub record IsTold (old new : Option (List ℕ)) : Type 0 where
  pub lines : List Line
  pub printed : Appends old new (news_lines lines)

pub told_nothing : (old : Option (List ℕ)) → IsTold old old
told_nothing old = record { lines = []; printed = append_nothing old }

pub told_more : (old mid new : Option (List ℕ)) (more : List Line) → IsTold old mid → Appends mid new (news_lines more) → IsTold old new
told_more old mid new more before printed = record {
  lines = before.lines ++ more;
  printed = subst (λ (bs : List ℕ). Appends old new bs) (sym (flat_map-append line_text before.lines more)) (append_both old mid new (news_lines before.lines) (news_lines more) before.printed printed);
}

-- ---- passes, one behind another

abbrev pass_text_of : ℕ × Told → List ℕ
pass_text_of p = told_text p.0 p.1

enumerate_push : (n : ℕ) (passes : List Told) (p : Told) → enumerate_from n (passes ++ p ∷ []) ≡ enumerate_from n passes ++ (n + length passes, p) ∷ []
enumerate_push n [] p = let e : n ≡ n + 0 = omega arith in ap {B = List (ℕ × Told)} (λ k. (k, p) ∷ []) e
enumerate_push n (q ∷ passes) p =
    let e : n + 1 + length passes ≡ n + length (q ∷ passes) = omega arith in
    ap {B = List (ℕ × Told)} (λ zs. (n, q) ∷ zs) (enumerate_push (n + 1) passes p ∙ ap (λ k. enumerate_from (n + 1) passes ++ (k, p) ∷ []) e)

-- So many passes were told, and it is known whether the last one fell short.
pub record AreTold (settings : Settings) (old new : Option (List ℕ)) (count : ℕ) (short : Bool) : Type 0 where
  pub passes : List Told
  pub count_is : length passes ≡ count
  pub each : All (IsPassOf settings) passes
  pub short_is : short ≡ last_falls_short passes
  pub printed : Appends old new (flat_map pass_text_of (enumerate_from 1 passes))

pub none_told : (settings : Settings) (old : Option (List ℕ)) → AreTold settings old old 0 false
none_told settings old = record { passes = []; count_is = refl; each = All-nil (IsPassOf settings); short_is = refl; printed = append_nothing old }

pub one_more_told : (settings : Settings) (old mid new : Option (List ℕ)) (count : ℕ) (before after : Bool) (p : Told) (number : ℕ)
    → AreTold settings old mid count before → TellsPass settings number mid new p → number ≡ count + 1 → after ≡ falls_short p → AreTold settings old new (count + 1) after
one_more_told settings old mid new count before after p number told one is short = record {
  passes = told.passes ++ p ∷ [];
  count_is = length_push told.passes p ∙ ap (λ n. n + 1) told.count_is;
  each = All-push (IsPassOf settings) told.passes p told.each one.is_pass;
  short_is = short ∙ sym (fold_push (λ (_ : Bool) (q : Told). falls_short q) false told.passes p);
  printed =
      let e : number ≡ 1 + length told.passes = let k = told.count_is in omega arith in
      let same : flat_map pass_text_of (enumerate_from 1 (told.passes ++ p ∷ [])) ≡ flat_map pass_text_of (enumerate_from 1 told.passes) ++ told_text number p =
      ap (flat_map pass_text_of) (enumerate_push 1 told.passes p)
      ∙ flat_map-append pass_text_of (enumerate_from 1 told.passes) ((1 + length told.passes, p) ∷ [])
      ∙ ap (λ l. flat_map pass_text_of (enumerate_from 1 told.passes) ++ l) (append-nil (told_text (1 + length told.passes) p) ∙ ap (λ k. told_text k p) (sym e)) in
      subst (λ (bs : List ℕ). Appends old new bs) (sym same)
      (append_both old mid new (flat_map pass_text_of (enumerate_from 1 told.passes)) (told_text number p) told.printed one.printed);
}

pub all_told : (settings : Settings) (old new : Option (List ℕ)) (count : ℕ) (short : Bool) → AreTold settings old new count short
    → count ≡ unwrap_or settings.mirroring.passes (2 ^ 64 - 1) → TellsPasses settings old new short
all_told settings old new count short told all = record { passes = told.passes; as_many = told.count_is ∙ all; each = told.each; short_is = told.short_is; printed = told.printed }

-- a pass, and its line
pub tells_pass : (settings : Settings) (old mid new : Option (List ℕ)) (number level relays millis : ℕ) (tally : Tally) → ToldPass settings old mid tally
    → IsStamped mid new (pass_text number level relays tally millis)
    → (told : Told) × TellsPass settings number old new told × (told.tally ≡ tally) × (told.level ≡ level) × (told.relays ≡ relays)
tells_pass settings old mid new number level relays millis tally told line =
    let p : Told = record { news = told.news; stamp = line.0; level = level; relays = relays; tally = tally; millis = millis } in (
      p,
      (record {
        is_pass = (told.came, told.is_pass);
        printed = append_both old mid new (news_lines told.news) (line_of line.0 (pass_text number level relays tally millis)) told.printed line.1;
      }),
      refl,
      refl,
      refl,
    )

-- a line more
pub told_line : (old mid new : Option (List ℕ)) (relay : ℕ) (news : News) → IsTold old mid → IsStamped mid new (news_text relay news) → IsTold old new
told_line old mid new relay news before line =
    told_more old mid new ((line.0, relay, news) ∷ []) before (subst (λ (bs : List ℕ). Appends mid new bs) (sym (append-nil (line_of line.0 (news_text relay news)))) line.1)
