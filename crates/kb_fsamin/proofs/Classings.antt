-- A round keeps what classes say; where it changes nothing, states of one class are alike.
use Rattle.std.proofs.Common.{◌≡◌, ◌≢◌, ℕ, zero, suc, ◌-◌, ◌≤◌, List, [], ◌∷◌, length, get_or, None, refl, sym, ap, ◌∙◌, inl, inr, arith}
use Rattle.std.proofs.lemmas.Bool.{cases_Bool, cases_eq, cases_lt, true≢false}
use Rattle.std.proofs.lemmas.List.{get_or_past}
use Rattle.kb_fsa.specs.Table.{Table, after, target, moves_of, is_accepting, step, AcceptsFrom}
use Rattle.kb_fsa.specs.Canonical.{IsState}
use Rattle.kb_fsa.proofs.Lookups.{IsRow-moves_of, step_within, after_none, same_from_targets}
use Rattle.kb_labelled.specs.Labels.{AreAlike, label_from}
use Rattle.kb_labelled.proofs.Likeness.{accepts_alike, label_rejecting}
use Rattle.kb_fsamin.specs.Rounds.{class_of, class_row, Sight, sight, IsRefined, IsClassing, IsStable, AreStoodFor}
use Rattle.kb_fsamin.proofs.Signatures.{pair_is}
use Rattle.kb_fsamin.proofs.ClassRows.{IsRow-class_row, target-class_row}

-- no text leads from no state to acceptance
pub rejects_none : (table : Table) (text : List ℕ) → ¬ AcceptsFrom table 0 text
rejects_none table text accepts = true≢false (sym accepts ∙ ap (is_accepting table) (after_none table text))

module _ (table : Table) (labels classes : List ℕ) (classing : IsClassing table labels classes) where
  -- what has a class leads to acceptance, and what leads there has one
  some_class : (state : ℕ) (text : List ℕ) → state ≤ length table.rows → AcceptsFrom table state text → class_of classes state ≢ 0
  some_class zero text within accepts = absurd (rejects_none table text accepts)
  some_class (suc place) text within accepts =
      (classing.live (suc place) (record { positive = omega arith; within = within })).1 (text, accepts)

  -- from what has no class no text leads to a label
  no_label : (state : ℕ) (text : List ℕ) → state ≤ length table.rows → class_of classes state ≡ 0 → label_from table labels state text ≡ None
  no_label state text within dead = elim (cases_Bool (is_accepting table (after table state text))) [
    | inl accepts ↦ absurd (some_class state text within accepts dead)
    | inr rejects ↦ label_rejecting table labels (after table state text) rejects
  ]

  has_state : (state : ℕ) → state ≤ length table.rows → class_of classes state ≢ 0 → IsState table state
  has_state zero within some = absurd (some classing.none)
  has_state (suc place) within some = record { positive = omega arith; within = within }

  pub one_class : (p q : ℕ) → p ≤ length table.rows → q ≤ length table.rows → AreAlike table labels p q → class_of classes p ≡ class_of classes q
  one_class zero zero one two same = refl
  one_class zero (suc q) one two same = elim (cases_eq (class_of classes (suc q)) 0) [
    | inl is ↦ classing.none ∙ sym is
    | inr some ↦
        let live = (classing.live (suc q) (record { positive = omega arith; within = two })).0 some in
        absurd (rejects_none table live.0 (accepts_alike table labels (suc q) 0 live.0 (sym (same live.0)) live.1))
  ]
  one_class (suc p) zero one two same = elim (cases_eq (class_of classes (suc p)) 0) [
    | inl is ↦ is ∙ sym classing.none
    | inr some ↦
        let live = (classing.live (suc p) (record { positive = omega arith; within = one })).0 some in
        absurd (rejects_none table live.0 (accepts_alike table labels (suc p) 0 live.0 (same live.0) live.1))
  ]
  one_class (suc p) (suc q) one two same =
      classing.respects (suc p) (suc q) (record { positive = omega arith; within = one }) (record { positive = omega arith; within = two }) same

  step_class : (state symbol : ℕ) → target (class_row classes (moves_of table state)) symbol ≡ class_of classes (step table state symbol)
  step_class state symbol = target-class_row classes (moves_of table state) symbol classing.none (IsRow-moves_of table state classing.is_table).ascends

  -- alike states look alike
  one_sight : (p q : ℕ) → IsState table p → IsState table q → AreAlike table labels p q → sight table classes p ≡ sight table classes q
  one_sight p q one two same =
      pair_is (sight table classes p) (sight table classes q) (classing.respects p q one two same)
      (same_from_targets (class_row classes (moves_of table p)) (class_row classes (moves_of table q))
      (IsRow-class_row classes (moves_of table p) (IsRow-moves_of table p classing.is_table))
      (IsRow-class_row classes (moves_of table q) (IsRow-moves_of table q classing.is_table))
      (λ symbol.
      step_class p symbol
      ∙ one_class (step table p symbol) (step table q symbol) (step_within table p symbol classing.is_table) (step_within table q symbol classing.is_table)
      (λ text. same (symbol ∷ text))
      ∙ sym (step_class q symbol)))

  pub round_keeps : (new : List ℕ) → IsRefined table classes new → IsClassing table labels new
  round_keeps new refined = record {
    is_table = classing.is_table;
    one_each = refined.one_each;
    none = refined.dead 0 classing.none;
    live = λ state is. (
      λ some. (classing.live state is).0 (λ dead. some (refined.dead state dead)),
      λ live. refined.alive state is.within ((classing.live state is).1 live),
    );
    labelled = λ p q one two some same.
        let first : class_of classes p ≢ 0 = λ dead. some (refined.dead p dead) in
        let second : class_of classes q ≢ 0 = λ dead. some (same ∙ refined.dead q dead) in
        classing.labelled p q one two first (ap (λ (s : Sight). s.0) (refined.refines p q one.within two.within first second same));
    respects = λ p q one two same. elim (cases_eq (class_of classes p) 0) [
      | inl dead ↦ refined.dead p dead ∙ sym (refined.dead q (sym (classing.respects p q one two same) ∙ dead))
      | inr some ↦
          refined.respects p q one.within two.within some (λ dead. some (classing.respects p q one two same ∙ dead)) (one_sight p q one two same)
    ];
  }

  module _ (sees : (p q : ℕ) → IsState table p → IsState table q → class_of classes p ≢ 0 → class_of classes p ≡ class_of classes q
      → class_row classes (moves_of table p) ≡ class_row classes (moves_of table q)) where
    one_label : (text : List ℕ) (p q : ℕ) → IsState table p → IsState table q → class_of classes p ≢ 0 → class_of classes p ≡ class_of classes q
        → label_from table labels p text ≡ label_from table labels q text
    one_label [] p q one two some same = classing.labelled p q one two some same
    one_label (symbol ∷ text) p q one two some same =
        let s = step table p symbol in
        let t = step table q symbol in
        let classes_alike : class_of classes s ≡ class_of classes t =
        sym (step_class p symbol) ∙ ap (λ row. target row symbol) (sees p q one two some same) ∙ step_class q symbol in
        let first = step_within table p symbol classing.is_table in
        let second = step_within table q symbol classing.is_table in
        elim (cases_eq (class_of classes s) 0) [
          | inl dead ↦ no_label s text first dead ∙ sym (no_label t text second (sym classes_alike ∙ dead))
          | inr next ↦ one_label text s t (has_state s first next) (has_state t second (λ dead. next (classes_alike ∙ dead))) next classes_alike
        ]

    stable_from_sights : IsStable table labels classes
    stable_from_sights p q one two some same = λ text. one_label text p q one two some same

  pub stable_from_refined : IsRefined table classes classes → IsStable table labels classes
  stable_from_refined refined =
      stable_from_sights
      (λ p q one two some same. ap (λ (v : Sight). v.1) (refined.refines p q one.within two.within some (λ dead. some (same ∙ dead)) same))

  -- states of a class see what the state sees that stands for them
  module _ (stood : AreStoodFor table classes (length table.rows)) where
    pub stable_from_stood : IsStable table labels classes
    stable_from_stood =
        stable_from_sights
        (λ p q one two some same.
        let mine = stood p one.positive one.within some in
        let theirs = stood q two.positive two.within (λ dead. some (same ∙ dead)) in
        sym mine.alike ∙ ap (λ class. class_row classes (get_or table.rows (class - 1) [])) same ∙ theirs.alike)

    pub small_from_stood : (state : ℕ) → class_of classes state ≤ length table.rows
    small_from_stood zero = omega (arith, classing.none)
    small_from_stood (suc place) = elim (cases_lt place (length table.rows)) [
      | inl within ↦ elim (cases_eq (class_of classes (suc place)) 0) [
        | inl dead ↦ omega arith
        | inr some ↦ (stood (suc place) (omega arith) (omega arith) some).within
      ]
      | inr beyond ↦ omega (arith, get_or_past classes (suc place) 0 (omega (arith, classing.one_each)))
    ]
