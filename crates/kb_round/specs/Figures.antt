-- The figures of a round: how large the automata are that it made, and which axiom they break.
use Rattle.std.specs.Prelude.{◌≡◌, ℕ, List, Option, Some, None, fold, length, max}
use Rattle.kb_word.specs.Words.{Pair as Sides}
use Rattle.kb_word.specs.declared.presentation.Presentation.{Presentation}
use Rattle.kb_fsa.specs.Language.{Automaton}
use Rattle.kb_diff.specs.Groups.{group_of}
use Rattle.kb_kept.specs.declared.equality.Equality.{Equality}
use Rattle.kb_structure.specs.declared.cert.Cert.{Cert}
use Rattle.kb_structure.specs.declared.cert.Cert.TheVariants as certs
use Rattle.kb_axioms.specs.Answered.{checked_in}
use Rattle.kb_axioms.specs.Checked.{IsFirstCertificate}
use Rattle.kb_axioms.specs.declared.answers.Construction.{Construction as CheckConstruction}
use Rattle.kb_round.specs.Rounds.{AreMadeOf, IsAcceptorOf, ShowsEquality}
use Rattle.kb_round.specs.declared.answers.Axiom.{Axiom}
use Rattle.kb_round.specs.declared.answers.Axiom.TheVariants as axioms
use Rattle.kb_round.specs.declared.answers.Construction.TheVariants.{Acceptor, Multipliers, Check}
use Rattle.kb_round.specs.declared.answers.Figures.{Figures}
use Rattle.kb_round.specs.declared.answers.Round.{Round}
use Rattle.kb_round.specs.declared.answers.Round.TheVariants.{Own, Refuted, TooManyStates}
use Rattle.kb_round.specs.declared.answers.Structure.{Structure}

-- how many states an automaton has
abbrev pub states_of : Automaton → ℕ
states_of automaton = length automaton.table.rows

-- how many states the largest of the automata has
abbrev pub largest_of : List Automaton → ℕ
largest_of automata = fold (λ most automaton. max most (states_of automaton)) 0 automata

-- the certificate breaks the axiom
pub data Breaks : Cert → Axiom → Type 0 where
  n4 : {x : ℕ} {u : List ℕ} → Breaks (certs.N4 x u) axioms.N4
  n5 : {x : ℕ} {u v other : List ℕ} → Breaks (certs.N5 x u v other) axioms.N5
  n6 : {x : ℕ} {u : List ℕ} → Breaks (certs.N6 x u) axioms.N6
  n7 : {x : ℕ} {u v : List ℕ} → Breaks (certs.N7 x u v) axioms.N7
  n8 : {number : ℕ} {u a b : List ℕ} → Breaks (certs.N8 number u a b) axioms.N8

-- What the check found of a word acceptor and multipliers, and which axiom they break, if there is a certificate.
pub data IsChecked (presentation : Presentation) (rules : List Sides) (limit : ℕ)
    (acceptor : Automaton) (multipliers : List Automaton) : Round → Option Axiom → Type 0 where
  own : {structure : Structure} → structure.acceptor ≡ acceptor
      → structure.multipliers.items ≡ multipliers
      → IsChecked presentation rules limit acceptor multipliers (Own structure) None
  refuted : {cert : Cert} {equality : Equality} {broken : Axiom}
      → IsFirstCertificate (checked_in presentation acceptor multipliers limit) cert
      → ShowsEquality rules cert equality → Breaks cert broken
      → IsChecked presentation rules limit acceptor multipliers (Refuted equality) (Some broken)
  counted : {which : CheckConstruction}
      → IsChecked presentation rules limit acceptor multipliers (TooManyStates (Check which)) None

-- the figures of so many word differences, and of automata that have so many states
abbrev pub figures_of : ℕ → ℕ → ℕ → Option Axiom → Figures
figures_of differences acceptor multiplier broken =
    record { differences = differences; acceptor = acceptor; multiplier = multiplier; broken = broken }

-- The figures are those of what the round made of the differences. What it made no more has no states.
pub data AreFiguresOf (presentation : Presentation) (rules : List Sides)
    (words : List (List ℕ)) (limit : ℕ) : Round → Figures → Type 0 where
  no_acceptor : AreFiguresOf presentation rules words limit (TooManyStates Acceptor)
      (figures_of (length words) 0 0 None)
  no_multipliers : {acceptor : Automaton} → IsAcceptorOf (group_of presentation rules) words acceptor
      → AreFiguresOf presentation rules words limit (TooManyStates Multipliers)
      (figures_of (length words) (states_of acceptor) 0 None)
  checked : {acceptor : Automaton} {multipliers : List Automaton} {found : Round}
      {broken : Option Axiom}
      → AreMadeOf (group_of presentation rules) words acceptor multipliers
      → IsChecked presentation rules limit acceptor multipliers found broken
      → AreFiguresOf presentation rules words limit found
      (figures_of (length words) (states_of acceptor) (largest_of multipliers) broken)
