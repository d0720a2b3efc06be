-- Which subcommand is found in words that clap takes.
use Rattle.std.proofs.Common.{◌≡◌, ℕ, get_or, ◌⊎◌, inl, inr, Bool, true, false, not, ◌&&◌, ◌||◌, cond, List, [], ◌∷◌, ◌++◌, Option, None, Some, refl, sym, ap, ◌∙◌, subst}
use Rattle.std.specs.Prelude.{codes, fold, find, is_some, option_map}
use Rattle.std.specs.Str.{bytes_eq}
use Rattle.std.proofs.lemmas.Bool.{cases_Bool, false≢true}
use Rattle.std.proofs.lemmas.Slice.Eq.{bytes_eq-Decides}
use Rattle.clap.specs.Lexer.{long_of, short_of}
use Rattle.clap.specs.Walk.{Held, Names, Outcome, Rule, Step, Text, Waiting, Walk, walked, subcommand_or_other, long_or_other, short_or_plain, after_flag, plain_word, after_step, to_positional, arg_by_index, subcommand_met}
use Rattle.clap.specs.Walk.{answers_to, finished, nothing_held, walk, walk_from}
use Rattle.clap.specs.Walk.{done, waits, plain, refused, idle, option, positional, next, trailing, subcommand, value}
use Rattle.clap.specs.Simple.{App, Shape, argument_words, built, entered, label_of, names_of, rows_at, subcommand_of}
use Rattle.clap.specs.Kinds.{Kinds, or_else}
use Rattle.clap.specs.Faults.{check_fault, entered_fault, fault_of, level_fault, other_fault, settle_fault, turn_fault, walk_fault}
use Rattle.clap.specs.declared.error.kind.ErrorKind.{ErrorKind}
use Rattle.clap.specs.declared.error.kind.ErrorKind.TheVariants.{MissingSubcommand}
use Rattle.mirror_words.specs.declared.words.Words.TheVariants.{Recon, Plan, Check, Serve, Sync, Mirror}
use Rattle.mirror_words.specs.CommandLine.{nostr_mirror, IsJob}

-- the subcommand that a step names
stop_by : Step → Option (Text × List Text)
stop_by (subcommand name) = Some (name, [])
stop_by (next w) = None
stop_by (trailing p) = None
stop_by value = None

both_none : (a b : Kinds) → or_else a b ≡ [] → (a ≡ []) × (b ≡ [])
both_none [] b e = (refl, e)
both_none (k ∷ ks) b e = absurd (cc)

module _ (c : List Rule) (word : Text) where
  plain_goes_on : (waiting : Waiting) (h : Held) → stop_by (plain_word c waiting word h).1 ≡ None
  unfolding stop_by
  plain_goes_on idle h = refl
  plain_goes_on (option id) h = refl
  plain_goes_on positional h = refl

  flag_goes_on : (waiting : Waiting) (h : Held) (o : Outcome) → stop_by (after_flag c waiting word h o).1 ≡ None
  unfolding stop_by
  flag_goes_on waiting h done = refl
  flag_goes_on waiting h (waits id) = refl
  flag_goes_on waiting h plain = plain_goes_on waiting h
  flag_goes_on waiting h refused = plain_goes_on waiting h

  short_goes_on : (waiting : Waiting) (o : Option Text) (h : Held) → stop_by (short_or_plain c waiting word o h).1 ≡ None
  short_goes_on waiting (Some flags) h = flag_goes_on waiting _ _
  short_goes_on waiting None h = plain_goes_on waiting h

  long_goes_on : (waiting : Waiting) (o : Option (Text × Option Text)) (h : Held) → stop_by (long_or_other c waiting word o h).1 ≡ None
  long_goes_on waiting (Some p) h = flag_goes_on waiting _ _
  long_goes_on waiting None h = short_goes_on waiting (short_of word) h

  -- what a word comes to that names no subcommand
  other_goes_on : (dashes : Bool) (waiting : Waiting) (position : ℕ) (h : Held) → stop_by (cond dashes (h, trailing position) (long_or_other c waiting word (long_of word) h)).1 ≡ None
  unfolding stop_by
  other_goes_on true waiting position h = refl
  other_goes_on false waiting position h = long_goes_on waiting (long_of word) h

  placed : (found : Option Rule) (w : Walk) (h : Held) → w.stopped ≡ None → (to_positional c found word w h).stopped ≡ None
  placed None w h e = e
  placed (Some a) w h e = refl

  after_other : (w : Walk) (h : Held) (step : Step) → w.stopped ≡ None → stop_by step ≡ None → (after_step c word w h step).stopped ≡ None
  unfolding stop_by
  after_other w h (next waiting) e s = e
  after_other w h (trailing p) e s = e
  after_other w h (subcommand name) e s = absurd (cc)
  after_other w h value e s = placed (arg_by_index c w.position) w h e

-- it asks for help
abbrev pub is_help : Shape → Text → Bool
is_help s name = bytes_eq name (codes "help") && not s.disable_help_subcommand

no_kind : (b : Bool) (k : ErrorKind) (ks : Kinds) → cond b (k ∷ ks) [] ≡ [] → b ≡ false
no_kind true k ks e = absurd (cc)
no_kind false k ks e = refl

module _ (s : Shape) (names : Names) where
  -- after one word the walk goes on, or it met a subcommand that isn't help
  abbrev GoesOn : Walk → Type 0
  GoesOn w = (w.stopped ≡ None) ⊎ ((name : Text) × (w.stopped ≡ Some (name, [])) × (is_help s name ≡ false))

  after_word : (w : Walk) (word : Text) (is_trailing : Bool) (met : Option Text) → w.stopped ≡ None → cond is_trailing [] (other_fault s met word w.held) ≡ [] →
      (let to : Held × Step = cond is_trailing (w.held, value) (subcommand_or_other s.rules met w.waiting w.position word w.held) in GoesOn (after_step s.rules word w to.0 to.1))
  after_word w word true met e f = inl (placed s.rules word (arg_by_index s.rules w.position) w w.held e)
  after_word w word false None e f = inl (after_other s.rules word w _ _ e (other_goes_on s.rules word (bytes_eq word (45 ∷ 45 ∷ [])) w.waiting w.position w.held))
  after_word w word false (Some name) e f = inr (name, refl, no_kind (is_help s name) _ _ f)

  -- where a walk stopped, it stays
  stays : (w : Walk) (p : Text × List Text) (words : List Text) → (rest : List Text) × ((fold (walked s.rules names) (record w { stopped = Some p }) words).stopped ≡ Some (p.0, rest))
  unfolding walked
  stays w p [] = (p.1, refl)
  stays w p (word ∷ words) = stays w (p.0, p.1 ++ word ∷ []) words

  same_name : (name : Text) (p : Text × List Text) (rest : List Text) → Some p ≡ Some (name, rest) → is_help s name ≡ false → is_help s p.0 ≡ false
  same_name name p rest e h = let same : p ≡ (name, rest) = cc in ap (λ (q : Text × List Text). is_help s q.0) same ∙ h

  -- a walk without a fault stops at no help
  pub no_help : (w : Walk) (words : List Text) (p : Text × List Text) → (fold (walked s.rules names) (record w { stopped = None }) words).stopped ≡ Some p → walk_fault s names (record w { stopped = None }) words ≡ [] → is_help s p.0 ≡ false
  unfolding walked walk_fault
  no_help w [] p at f = absurd (cc)
  no_help w (word ∷ words) p at f =
      let w0 : Walk = record w { stopped = None } in
      let w1 : Walk = walked s.rules names w0 word in
      let parts = both_none (turn_fault s names w0 word) (walk_fault s names w1 words) f in
      let turn = both_none (cond w.is_trailing [] (other_fault s (subcommand_met names w.waiting word) word w.held)) _ parts.0 in
      elim (after_word w0 word w.is_trailing (subcommand_met names w.waiting word) refl turn.0) [
        | inl on ↦
            (let same : w1 ≡ record w1 { stopped = None } = ap (λ (o : Option (Text × List Text)). record w1 { stopped = o }) on in
            no_help w1 words p (subst (λ (v : Walk). (fold (walked s.rules names) v words).stopped ≡ Some p) same at) (subst (λ (v : Walk). walk_fault s names v words ≡ []) same parts.1))
        | inr met ↦
            (let same : w1 ≡ record w1 { stopped = Some (met.0, []) } = ap (λ (o : Option (Text × List Text)). record w1 { stopped = o }) met.1 in
            let end = stays w1 (met.0, []) words in
            same_name met.0 p end.0 (sym at ∙ ap (λ (v : Walk). (fold (walked s.rules names) v words).stopped) same ∙ end.1) met.2)
      ]

flipped : (a b : Text) → bytes_eq a b ≡ false → (bytes_eq b a || false) ≡ false
flipped a b h = elim (cases_Bool (bytes_eq b a)) [
  | inl t ↦ absurd (false≢true (sym h ∙ (bytes_eq-Decides a b).1 (sym ((bytes_eq-Decides b a).0 t))))
  | inr f ↦ ap (λ x. x || false) f
]

and_true : (b : Bool) → (b && true) ≡ false → b ≡ false
and_true true h = h
and_true false h = refl

-- of seven shapes, where the last doesn't pass
pick : (test : Shape → Bool) (x y z u v w o : Shape) → test o ≡ false →
    (let name : Option Text = option_map (λ s. s.name) (find test (x ∷ y ∷ z ∷ u ∷ v ∷ w ∷ o ∷ [])) in (name ≡ None) ⊎ ((name ≡ Some x.name) ⊎ ((name ≡ Some y.name) ⊎ ((name ≡ Some z.name) ⊎ ((name ≡ Some u.name) ⊎ ((name ≡ Some v.name) ⊎ (name ≡ Some w.name)))))))
pick test x y z u v w o last = go (test x) (test y) (test z) (test u) (test v) (test w) (test o) last
  where
    go : (a b c d e f g : Bool) → g ≡ false →
        (let name : Option Text = option_map (λ (s : Shape). s.name) (cond a (Some x) (cond b (Some y) (cond c (Some z) (cond d (Some u) (cond e (Some v) (cond f (Some w) (cond g (Some o) None))))))) in (name ≡ None) ⊎ ((name ≡ Some x.name) ⊎ ((name ≡ Some y.name) ⊎ ((name ≡ Some z.name) ⊎ ((name ≡ Some u.name) ⊎ ((name ≡ Some v.name) ⊎ (name ≡ Some w.name)))))))
    go true b c d e f g h = inr (inl refl)
    go false true c d e f g h = inr (inr (inl refl))
    go false false true d e f g h = inr (inr (inr (inl refl)))
    go false false false true e f g h = inr (inr (inr (inr (inl refl))))
    go false false false false true f g h = inr (inr (inr (inr (inr (inl refl)))))
    go false false false false false true g h = inr (inr (inr (inr (inr (inr refl)))))
    go false false false false false false true h = absurd (false≢true (sym h))
    go false false false false false false false h = inl refl

-- the program as clap builds it, with its subcommand `help`
abbrev whole : App
whole = built nostr_mirror

-- its subcommand at a place
abbrev sub_at : ℕ → Shape
sub_at k = get_or whole.subs k whole.top

found_none : (words : List Text) (found : Option Shape) → option_map (λ s. s.name) found ≡ None → is_some (option_map (λ s. rows_at s words) found) ≡ false
found_none words None e = refl
found_none words (Some s) e = absurd (cc)

found_name : (words : List Text) (found : Option Shape) → option_map (λ p. p.0) (option_map (λ s. rows_at s words) found) ≡ option_map (λ s. s.name) found
found_name words None = refl
found_name words (Some s) = refl

-- without a subcommand there is a fault
module _ (args : List Text) where
  abbrev walked_all : Walk
  walked_all = walk whole.top.rules (names_of whole) nothing_held args

  last_fault : (has : Bool) (below : Kinds) → level_fault whole.top (names_of whole) nothing_held args has below ≡ [] → check_fault whole.top (finished whole.top.rules walked_all.held) has ≡ []
  last_fault has below f =
      let a = both_none (walk_fault whole.top (names_of whole) (walk_from nothing_held) args) _ f in
      let b = both_none below _ a.1 in
      let c = both_none (settle_fault whole.top.rules whole.top.args_override_self walked_all.held) _ b.1 in
      (both_none _ _ c.1).1

  has_one : (has : Bool) (below : Kinds) → has ≡ false → level_fault whole.top (names_of whole) nothing_held args has below ≡ [] → ⊥
  has_one true below e f = false≢true (sym e)
  has_one false below e f = let g : MissingSubcommand ∷ [] ≡ [] = last_fault false below f in cc

  from_stop : (stop : Option (Text × List Text)) → walked_all.stopped ≡ stop → level_fault whole.top (names_of whole) nothing_held args (is_some (entered whole stop)) (entered_fault whole stop) ≡ [] → IsJob (option_map (λ s. s.0) (entered whole stop))
  from_stop None e f = absurd (has_one false [] refl f)
  from_stop (Some p) e f =
      let a = both_none (walk_fault whole.top (names_of whole) (walk_from nothing_held) args) _ f in
      let apart : bytes_eq p.0 (codes "help") ≡ false = and_true (bytes_eq p.0 (codes "help")) (no_help whole.top (names_of whole) (walk_from nothing_held) args p e a.0) in
      let found : Option Shape = find (λ s. answers_to p.0 (label_of s)) whole.subs in
      let name : option_map (λ s. s.0) (entered whole (Some p)) ≡ option_map (λ s. s.name) found = found_name p.1 found in
      elim (pick (λ s. answers_to p.0 (label_of s)) (sub_at 0) (sub_at 1) (sub_at 2) (sub_at 3) (sub_at 4) (sub_at 5) (sub_at 6) (flipped p.0 (codes "help") apart)) [
        | inl none ↦ absurd (has_one _ _ (found_none p.1 found none) f)
        | inr some ↦ elim some [
          | inl recon ↦ (Recon 60000, name ∙ recon)
          | inr others ↦ elim others [
            | inl plan ↦ (Plan, name ∙ plan)
            | inr others ↦ elim others [
              | inl check ↦ (Check, name ∙ check)
              | inr others ↦ elim others [
                | inl serve ↦ (Serve [], name ∙ serve)
                | inr others ↦ elim others [ inl sync ↦ (Sync [] false false, name ∙ sync) | inr mirror ↦ (Mirror [] false, name ∙ mirror) ]
              ]
            ]
          ]
        ]
      ]

-- words that clap takes name a job
pub named_job : (words : List Text) → fault_of nostr_mirror words ≡ [] → IsJob (option_map (λ s. s.0) (subcommand_of nostr_mirror words))
named_job words f = from_stop (argument_words nostr_mirror words) _ refl f
