-- A justified log to which a line is added.
use Rattle.std.proofs.Common.{◌≡◌, ◌≢◌, ℕ, List, [], ◌∷◌, ◌++◌, take, Some, sym, ◌∙◌, subst, inl, inr, arith}
use Rattle.std.specs.Prelude.{slice_get}
use Rattle.std.proofs.lemmas.Option.{slice_get_within}
use Rattle.kb_word.specs.Words.{Pair}
use Rattle.kb_machine.specs.Lines.{rules_of, replaced}
use Rattle.kb_machine.specs.Justified.{FollowsBy, IsJustified}
use Rattle.kb_machine.specs.declared.line.Line.{Line}
use Rattle.kb_machine.specs.declared.origin.Origin.TheVariants.{Relation}
use Rattle.kb_machine.proofs.Numbers.{slice_get_push_cases, take_rules, take_rules_all}

-- The line may come next: it follows from the lines and decreases, and none of them uses its relation or replaces the
-- line that it replaces.
pub record MayCome (below : List ℕ → List ℕ → Type 0) (relations : List Pair) (lines : List Line)
    (line : Line) : Type 0 where
  pub follows : FollowsBy relations (rules_of lines) line.origin line
  pub decreases : below line.right line.left
  pub new_relation : (index : ℕ) (other : Line) (k : ℕ) → slice_get lines index ≡ Some other → other.origin ≡ Relation k
      → line.origin ≢ Relation k
  pub new_replaced : (index : ℕ) (other : Line) (k : ℕ) → slice_get lines index ≡ Some other
      → replaced other.origin ≡ Some k
      → replaced line.origin ≢ Some k

-- at most one line has the property
abbrev AtMostOne : (Line → Type 0) → List Line → Type 0
AtMostOne P lines = (index other : ℕ) (line another : Line) → slice_get lines index ≡ Some line
    → slice_get lines other ≡ Some another
    → P line → P another → index ≡ other

at_most_one_push : (P : Line → Type 0) (lines : List Line) (line : Line) → AtMostOne P lines
    → ((index : ℕ) (other : Line) → slice_get lines index ≡ Some other → P other → ¬ P line)
    → AtMostOne P (lines ++ line ∷ [])
at_most_one_push P lines line once new index other one another is_one is_another h g =
    elim (slice_get_push_cases lines line index one is_one) [
      | inl before ↦ elim (slice_get_push_cases lines line other another is_another) [
        | inl earlier ↦ once index other one another before earlier h g
        | inr last ↦ absurd (new index one before h (subst P (sym last.1) g))
      ]
      | inr here ↦ elim (slice_get_push_cases lines line other another is_another) [
        | inl earlier ↦ absurd (new other another earlier g (subst P (sym here.1) h))
        | inr last ↦ here.0 ∙ sym last.0
      ]
    ]

follows_push : {below : List ℕ → List ℕ → Type 0} {relations : List Pair} {lines : List Line} {line : Line}
    → IsJustified below relations lines → MayCome below relations lines line
    → (index : ℕ) (one : Line) → slice_get (lines ++ line ∷ []) index ≡ Some one
    → FollowsBy relations (take index (rules_of (lines ++ line ∷ []))) one.origin one
follows_push {relations = relations} {lines = lines} {line = line} justified next index one is_one =
    elim (slice_get_push_cases lines line index one is_one) [
      | inl before ↦
          let within = slice_get_within lines index one before in
          let P : List Pair → Type 0 = λ earlier. FollowsBy relations earlier one.origin one in
          subst P (sym (take_rules lines line index (omega arith))) (justified.follows index one before)
      | inr last ↦
          let P : Line → Type 0 = λ other. FollowsBy relations (rules_of lines) other.origin other in
          let Q : List Pair → Type 0 = λ earlier. FollowsBy relations earlier one.origin one in
          let R : ℕ → Type 0 = λ k. FollowsBy relations (take k (rules_of (lines ++ line ∷ []))) one.origin one in
          subst R (sym last.0) (subst Q (sym (take_rules_all lines line)) (subst P last.1 next.follows))
    ]

-- the log with the line is justified
pub justified_push : {below : List ℕ → List ℕ → Type 0} {relations : List Pair} {lines : List Line} {line : Line}
    → IsJustified below relations lines → MayCome below relations lines line
    → IsJustified below relations (lines ++ line ∷ [])
justified_push {below = below} {relations = relations} {lines = lines} {line = line} justified next = record {
  follows = λ index one is_one. follows_push justified next index one is_one;
  decreases = λ index one is_one. elim (slice_get_push_cases lines line index one is_one) [
    | inl before ↦ justified.decreases index one before
    | inr last ↦ let P : Line → Type 0 = λ other. below other.right other.left in subst P last.1 next.decreases
  ];
  relations_once = λ index other k one another is_one is_another h g.
      at_most_one_push (λ each. each.origin ≡ Relation k) lines line
      (λ i j first second p q s t. justified.relations_once i j k first second p q s t)
      (λ i first p s. next.new_relation i first k p s) index other one another is_one is_another h g;
  replaced_once = λ index other k one another is_one is_another h g.
      at_most_one_push (λ each. replaced each.origin ≡ Some k) lines line
      (λ i j first second p q s t. justified.replaced_once i j k first second p q s t)
      (λ i first p s. next.new_replaced i first k p s) index other one another is_one is_another h g;
}
