-- The labels of a multiplier's states by rules, and what is answered of their label words.
-- Epstein et al., Word Processing in Groups, 2.3; Holt, Eick, O'Brien, Handbook of Computational Group Theory, 13.2.
use Rattle.std.specs.Prelude.{◌≡◌, ◌≢◌, ℕ, List, []}
use Rattle.kb_word.specs.Words.{Less, Pair, OneOf}
use Rattle.kb_word.specs.WordOrders.{Below}
use Rattle.kb_word.specs.Congruence.{Congruent}
use Rattle.kb_word.specs.Rewriting.{NormalForm}
use Rattle.kb_word.specs.declared.presentation.Presentation.{Presentation}
use Rattle.kb_rules.specs.Steps.{Leads}
use Rattle.kb_fsa.specs.Table.{Table}
use Rattle.kb_fsa.specs.PairSymbols.{first_letter, second_letter}
use Rattle.kb_fsa.specs.Canonical.{IsLeastText}
use Rattle.kb_fsa.specs.Language.{Automaton}
use Rattle.kb_diff.specs.Groups.{Group}
use Rattle.kb_diff.specs.Steps.{LeadsBy}
use Rattle.kb_structure.specs.Labels.{Labelling, LiesOnAcceptedText, IsLabelWord}
use Rattle.kb_labels.specs.declared.labels.Labels.{Labels}
use Rattle.kb_labels.specs.declared.labels.Labels.TheVariants.{Agree, Differ}

-- the pair (a, b) of letters turns the word d into e: the normal form of a^-1 d b, a padding counting as nothing
abbrev pub Turns : Group → List ℕ → ℕ → List ℕ → Type 0
Turns group d symbol e = LeadsBy group d (first_letter group.n symbol) (second_letter group.n symbol) e

-- The label of a state: along the least text that leads to the state each pair of letters turns the label before it,
-- at first the empty word, into the next.
pub record IsLabel (group : Group) (table : Table) (state : ℕ) (label : List ℕ) : Type 0 where
  pub text : List ℕ
  pub least : IsLeastText table state text
  pub turned : Leads (Turns group) [] text label

-- the labels are those of the states that lie on accepted texts
abbrev pub AreLabels : Group → Labelling → Type 0
AreLabels group labelling = (state : ℕ)
    → LiesOnAcceptedText labelling.multiplier.table state
    → IsLabel group labelling.multiplier.table state (labelling.label state)

-- the word is the normal form of a label word of the state
pub record IsReducedLabelWord (group : Group) (labelling : Labelling) (state : ℕ)
    (reduced : List ℕ) : Type 0 where
  pub word : List ℕ
  pub is_label_word : IsLabelWord labelling state word
  pub normal : NormalForm group.rules word reduced

-- all label words of the state have its label as their normal form
abbrev pub AgreesAt : Group → Labelling → ℕ → Type 0
AgreesAt group labelling state = (reduced : List ℕ)
    → IsReducedLabelWord group labelling state reduced → reduced ≡ labelling.label state

-- of each state that lies on an accepted text all label words have its label as their normal form
abbrev pub LabelsAgree : Group → Labelling → Type 0
LabelsAgree group labelling = (state : ℕ)
    → LiesOnAcceptedText labelling.multiplier.table state → AgreesAt group labelling state

-- The state is the first, in the order of the least texts that lead to the states, of which a label word has another
-- normal form than the label, and this is the least such normal form.
pub record IsFirstDiffering (group : Group) (labelling : Labelling) (state : ℕ)
    (label other : List ℕ) : Type 0 where
  pub lies : LiesOnAcceptedText labelling.multiplier.table state
  pub is_label : label ≡ labelling.label state
  pub reduced : IsReducedLabelWord group labelling state other
  pub different : other ≢ label
  pub least : (reduced : List ℕ) → IsReducedLabelWord group labelling state reduced
      → reduced ≢ label → ¬ Below group.order reduced other
  pub first : (earlier : ℕ) (text more : List ℕ)
      → LiesOnAcceptedText labelling.multiplier.table earlier
      → IsLeastText labelling.multiplier.table earlier text
      → IsLeastText labelling.multiplier.table state more → Less text more
      → AgreesAt group labelling earlier

-- what is answered of a multiplier's label words
abbrev pub IsAnswer : Group → Labelling → Labels → Type 0
IsAnswer group labelling Agree = LabelsAgree group labelling
IsAnswer group labelling (Differ state label other) =
    IsFirstDiffering group labelling state label other

-- the multiplier of x, with a word for each state, in the group that is presented
abbrev pub labelling_of : Presentation → ℕ → Automaton → (ℕ → List ℕ) → Labelling
labelling_of presentation x multiplier label =
    record {
      inverses = presentation.inv;
      equations = presentation.eqs;
      x = x;
      multiplier =
          multiplier;
      label = label;
    }

-- the multiplier's labels by the rules, with what is answered of them
pub record IsAnswered (group : Group) (presentation : Presentation) (x : ℕ)
    (multiplier : Automaton) (labels : Labels) : Type 0 where
  pub label : ℕ → List ℕ
  pub are_labels : AreLabels group (labelling_of presentation x multiplier label)
  pub is_answer : IsAnswer group (labelling_of presentation x multiplier label) labels

-- both sides of each rule are congruent by the relations
abbrev pub AreEqualSides : List Pair → List Pair → Type 0
AreEqualSides relations rules = (rule : Pair) → OneOf rules rule
    → Congruent (OneOf relations) rule.0 rule.1

-- words that are congruent by the relations have one normal form by the rules, as confluent rules of the congruence
-- give
abbrev pub HaveOneNormalForm : List Pair → List Pair → Type 0
HaveOneNormalForm relations rules = (u v m n : List ℕ) → Congruent (OneOf relations) u v
    → NormalForm rules u m → NormalForm rules v n → m ≡ n
