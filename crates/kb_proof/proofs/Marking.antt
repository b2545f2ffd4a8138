-- Marks at the numbers that lines use up, where a line is added.
use Rattle.std.proofs.Common.{◌≡◌, ◌≢◌, ◌⊎◌, ℕ, Bool, false, IsTrue, List, [], ◌∷◌, ◌++◌, length, get_or, Result, Ok, Err, OnOk, Option, None, Some, sym, ap, ◌∙◌, subst, inl, inr}
use Rattle.std.proofs.lemmas.Bool.{cases_eq}
use Rattle.kb_word.specs.Words.{Pair}
use Rattle.kb_machine.specs.Lines.{replaced}
use Rattle.kb_machine.specs.declared.line.Line.{Line}
use Rattle.kb_machine.specs.declared.origin.Origin.{Origin}
use Rattle.kb_machine.specs.declared.origin.Origin.TheVariants.{Relation}
use Rattle.kb_machine.proofs.Numbers.{slice_get_front, slice_get_last, slice_get_push_cases}
use Rattle.kb_proof.specs.Verifying.{relation_used, HasOriginFault, IsUsed}
use Rattle.kb_proof.specs.Verifying.HasOriginFault.{used_again, replaced_again}
use Rattle.kb_proof.specs.Checking.{AreAt, AreMarks}
use Rattle.kb_proof.specs.declared.verifying.marks.Marks.{Marks}

used_before : {used : Origin → Option ℕ} {lines : List Line} {k : ℕ} (line : Line) → IsUsed used lines k
    → IsUsed used (lines ++ line ∷ []) k
used_before {lines = lines} line is = record {
  index = is.index;
  line = is.line;
  at = slice_get_front lines (line ∷ []) is.index is.line is.at;
  uses = is.uses;
}

used_last : (used : Origin → Option ℕ) (lines : List Line) (line : Line) (k : ℕ) → used line.origin ≡ Some k
    → IsUsed used (lines ++ line ∷ []) k
used_last used lines line k is = record { index = length lines; line = line; at = slice_get_last lines line; uses = is }

used_cases : {used : Origin → Option ℕ} {lines : List Line} (line : Line) {k : ℕ} → IsUsed used (lines ++ line ∷ []) k
    → IsUsed used lines k ⊎ (used line.origin ≡ Some k)
used_cases {used = used} {lines = lines} line {k = k} is =
    elim (slice_get_push_cases lines line is.index is.line is.at) [
      | inl before ↦ inl (record { index = is.index; line = is.line; at = before; uses = is.uses })
      | inr last ↦ let P : Line → Type 0 = λ other. used other.origin ≡ Some k in inr (subst P (sym last.1) is.uses)
    ]

-- a line that uses up nothing leaves the marks
pub at_kept : (used : Origin → Option ℕ) (lines : List Line) (marks : List Bool) (line : Line) → used line.origin ≡ None
    → AreAt used lines marks
    → AreAt used (lines ++ line ∷ []) marks
at_kept used lines marks line none at k = (
  λ marked. used_before line ((at k).0 marked),
  λ is. elim (used_cases line is) [ inl before ↦ (at k).1 before | inr here ↦ absurd (cc (none, here)) ],
)

-- a line that uses up a number gives it a mark
pub at_marked : (used : Origin → Option ℕ) (lines : List Line) (old new : List Bool) (line : Line) (number : ℕ)
    → used line.origin ≡ Some number → IsTrue (get_or new number false)
    → ((k : ℕ) → k ≢ number → get_or new k false ≡ get_or old k false) → AreAt used lines old
    → AreAt used (lines ++ line ∷ []) new
at_marked used lines old new line number is here others at k =
    elim (cases_eq k number) [
      | inl same ↦
          let P : ℕ → Type 0 = λ i. IsTrue (get_or new i false) in
          (λ marked. used_last used lines line k (is ∙ ap Some (sym same)), λ used. subst P (sym same) here)
      | inr apart ↦
          let P : Bool → Type 0 = λ b. IsTrue b in (
            λ marked. used_before line ((at k).0 (subst P (others k apart) marked)),
            λ used. elim (used_cases line used) [
              | inl before ↦ subst P (sym (others k apart)) ((at k).1 before)
              | inr last ↦ absurd (apart (cc (is, last)))
            ],
          )
    ]

-- ---- both lists of marks

pub add_relation : {lines : List Line} {old new : Marks} (line : Line) (number : ℕ) → line.origin ≡ Relation number
    → IsTrue (get_or new.relations.items number false)
    → ((k : ℕ) → k ≢ number → get_or new.relations.items k false ≡ get_or old.relations.items k false)
    → new.lines.items ≡ old.lines.items → AreMarks lines old
    → AreMarks (lines ++ line ∷ []) new
add_relation {lines = lines} {old = old} {new = new} line number is here others same marks =
    let P : List Bool → Type 0 = λ bits. AreAt replaced lines bits in
    record {
      relations = at_marked relation_used lines old.relations.items new.relations.items line number (ap relation_used is) here others marks.relations;
      replaced_lines = at_kept replaced lines new.lines.items line (ap replaced is) (subst P (sym same) marks.replaced_lines);
    }

pub add_replaced : {lines : List Line} {old new : Marks} (line : Line) (number : ℕ) → relation_used line.origin ≡ None
    → replaced line.origin ≡ Some number → IsTrue (get_or new.lines.items number false)
    → ((k : ℕ) → k ≢ number → get_or new.lines.items k false ≡ get_or old.lines.items k false)
    → new.relations.items ≡ old.relations.items → AreMarks lines old
    → AreMarks (lines ++ line ∷ []) new
add_replaced {lines = lines} {old = old} {new = new} line number none is here others same marks =
    let P : List Bool → Type 0 = λ bits. AreAt relation_used lines bits in
    record {
      relations = at_kept relation_used lines new.relations.items line none (subst P (sym same) marks.relations);
      replaced_lines = at_marked replaced lines old.lines.items new.lines.items line number is here others marks.replaced_lines;
    }

-- the same, where taking memory for the mark may fail
pub marked_relation : {T E : Type 0} (old new : Marks) (answer : Result T E) (origin : Origin) (number : ℕ)
    → origin ≡ Relation number → OnOk answer (IsTrue (get_or new.relations.items number false))
    → OnOk answer ((k : ℕ) → k ≢ number → get_or new.relations.items k false ≡ get_or old.relations.items k false)
    → new.lines.items ≡ old.lines.items
    → OnOk answer ((lines : List Line) (line : Line) → line.origin ≡ origin → AreMarks lines old
    → AreMarks (lines ++ line ∷ []) new)
marked_relation old new (Ok done) origin number is here others same = λ lines line of_line marks.
    add_relation {old = old} {new = new} line number (of_line ∙ is) here others same marks
marked_relation old new (Err error) origin number is here others same = tt

pub marked_line : {T E : Type 0} (old new : Marks) (answer : Result T E) (origin : Origin) (number : ℕ)
    → relation_used origin ≡ None → replaced origin ≡ Some number
    → OnOk answer (IsTrue (get_or new.lines.items number false))
    → OnOk answer ((k : ℕ) → k ≢ number → get_or new.lines.items k false ≡ get_or old.lines.items k false)
    → new.relations.items ≡ old.relations.items
    → OnOk answer ((lines : List Line) (line : Line) → line.origin ≡ origin → AreMarks lines old
    → AreMarks (lines ++ line ∷ []) new)
marked_line old new (Ok done) origin number none is here others same = λ lines line of_line marks.
    add_replaced {old = old} {new = new} line number (ap relation_used of_line ∙ none) (ap replaced of_line ∙ is) here others same
    marks
marked_line old new (Err error) origin number none is here others same = tt

pub add_neither : {lines : List Line} {marks : Marks} (line : Line) → relation_used line.origin ≡ None
    → replaced line.origin ≡ None → AreMarks lines marks
    → AreMarks (lines ++ line ∷ []) marks
add_neither {lines = lines} {marks = marks} line one other is = record {
  relations = at_kept relation_used lines marks.relations.items line one is.relations;
  replaced_lines = at_kept replaced lines marks.lines.items line other is.replaced_lines;
}

pub relation_again : {lines : List Line} {marks : Marks} {origin : Origin} (relations : List Pair) (k : ℕ)
    → origin ≡ Relation k → AreMarks lines marks → IsTrue (get_or marks.relations.items k false)
    → HasOriginFault relations lines origin
relation_again relations k is marks marked = used_again k (ap relation_used is) ((marks.relations k).0 marked)

pub replaced_twice : {lines : List Line} {marks : Marks} {origin : Origin} (relations : List Pair) (k : ℕ)
    → replaced origin ≡ Some k → AreMarks lines marks → IsTrue (get_or marks.lines.items k false)
    → HasOriginFault relations lines origin
replaced_twice relations k is marks marked = replaced_again k is ((marks.replaced_lines k).0 marked)

at_none : (used : Origin → Option ℕ) → AreAt used [] []
at_none used k = (λ marked. absurd (cc marked), λ is. let at = is.at in absurd (cc at))

-- no marks for no lines
pub no_marks : (marks : Marks) → marks.relations.items ≡ [] → marks.lines.items ≡ [] → AreMarks [] marks
no_marks marks one other =
    let P : List Bool → Type 0 = λ bits. AreAt relation_used [] bits in
    let Q : List Bool → Type 0 = λ bits. AreAt replaced [] bits in
    record { relations = subst P (sym one) (at_none relation_used); replaced_lines = subst Q (sym other) (at_none replaced) }
