-- What the commands mean that make an automaton and store it.
use Rattle.std.specs.Prelude.{◌≡◌, ◌↔◌, ℕ, ◌⊎◌, List}
use Rattle.kb_io.specs.Outside.{Outside, IsUnchanged}
use Rattle.kb_fsa.specs.declared.alphabet.Alphabet.{Alphabet}
use Rattle.kb_fsa.specs.declared.alphabet.Alphabet.TheVariants.{Plain}
use Rattle.kb_fsa.specs.Language.{Automaton, AcceptsText, IsAutomaton, generators}
use Rattle.kb_fsa.specs.Canonical.{IsCanonical}
use Rattle.kb_fsa.specs.Counted.{CountedAnd, CountedOr, CountedNot, CountedExists, CountedConcat, CountedStar, CountedReverse}
use Rattle.kb_fsabool.specs.Answers.{IsIntersection, IsUnion, IsComplement}
use Rattle.kb_fsadet.specs.Projection.{IsProjection}
use Rattle.kb_fsarat.specs.Products.{IsConcatenation, IsStar, IsReversal}
use Rattle.kb_fsaprint.specs.Printed.{text_of_automaton}
use Rattle.kb_task.specs.Effects.{Writes, WritesFront, Stores, LeavesUnknown}
use Rattle.kb_task.specs.Limits.{undecided_line}
use Rattle.kb_task.specs.Promises.{Promise}
use Rattle.kb_task.specs.Statuses.{AnswersYes, AnswersYesOrLimit, IsConclusive}
use Rattle.kb_task.specs.declared.loading.automata.Kind.{Kind}
use Rattle.kb_task.specs.declared.loading.automata.Kind.TheVariants.{WordsOrPairs, Words, Pairs}
use Rattle.kb_task.specs.declared.status.Construction.{Construction}
use Rattle.kb_task.specs.declared.status.Construction.TheVariants as constructions
use Rattle.kb_task.specs.declared.status.Limit.{Limit}
use Rattle.kb_task.specs.declared.status.Limit.TheVariants.{States}
use Rattle.kb_task.specs.declared.status.Status.{Status}
use Rattle.kb_task.specs.declared.status.Status.TheVariants.{Yes, Undecided, Memory, Fault}
use Rattle.kb_task.specs.declared.status.Which.TheVariants.{Store, Output}
use Rattle.kb_cmd_automata.specs.Loaded.{OneMeans, TwoMean, IsUnrefusedAs, AreBothUnrefused, RefusesAs, RefusesOfTwo}
use Rattle.kb_cmd_automata.specs.declared.combine.Combination.{Combination}
use Rattle.kb_cmd_automata.specs.declared.combine.Combination.TheVariants as combinations
use Rattle.kb_cmd_automata.specs.declared.combine.Combine.{Combine}
use Rattle.kb_cmd_automata.specs.declared.minimise.Minimise.{Minimise}
use Rattle.kb_cmd_automata.specs.declared.transform.Transform.{Transform}
use Rattle.kb_cmd_automata.specs.declared.transform.Transformation.{Transformation}
use Rattle.kb_cmd_automata.specs.declared.transform.Transformation.TheVariants as transformations

-- ---- what is made and stored

-- the canonical automaton of those that are meant was stored
pub record StoresMade (IsMade : Automaton → Type 0) (out : List ℕ) (names : List (List ℕ))
    (before after : Outside) : Type 0 where
  pub made : Automaton
  pub is_made : IsMade made
  pub automaton : IsAutomaton made
  pub canonical : IsCanonical made.table
  pub stores : Stores out (text_of_automaton names made) before after

-- no limit is exceeded
abbrev pub IsWithin : (Limit → Type 0) → Type 0
IsWithin Exceeds = (limit : Limit) → ¬ Exceeds limit

-- What a run means that makes an automaton and stores it: it stored the text of the canonical
-- automaton of those that are meant, and did nothing else; or it printed the limit that its
-- construction exceeds, and stored nothing.
abbrev pub MakeMeans : (Automaton → Type 0) → (Limit → Type 0) → List ℕ → List (List ℕ) → Outside
    → Outside
    → Status → Type 0
MakeMeans IsMade Exceeds out names before after Yes =
    StoresMade IsMade out names before after × IsWithin Exceeds
MakeMeans IsMade Exceeds out names before after (Undecided limit) =
    Exceeds limit × Writes (undecided_line names limit) before after
MakeMeans IsMade Exceeds out names before after (Fault (Store name)) =
    (name ≡ out) × LeavesUnknown out before after × IsWithin Exceeds
MakeMeans IsMade Exceeds out names before after (Fault Output) =
    (limit : Limit) × Exceeds limit × WritesFront (undecided_line names limit) before after
MakeMeans IsMade Exceeds out names before after Memory = IsUnchanged before after
MakeMeans IsMade Exceeds out names before after _ = ⊥

-- the automaton is over the alphabet and accepts these texts
abbrev pub IsMadeOf : Alphabet → (List ℕ → Type 0) → Automaton → Type 0
IsMadeOf alphabet Accepted made =
    (made.alphabet ≡ alphabet) × ((text : List ℕ) → AcceptsText made text ↔ Accepted text)

-- What a command makes of the automaton in a file, of which kind that has to be, and where it stores it.
pub record Making : Type 1 where
  pub kind : Kind
  pub file : List ℕ
  pub out : List ℕ
  pub IsMade : Automaton → Automaton → Type 0

-- what a run of it means, by the limits that are exceeded
abbrev pub MakingMeans : Making → (Automaton → Limit → Type 0) → Outside → Outside → Status → Type 0
MakingMeans making Exceeds = OneMeans making.kind making.file
    (λ names one. MakeMeans (making.IsMade one) (Exceeds one) making.out names)

-- what it then promises, by these limits, its answers, and the commands that differ in options alone
abbrev pub make_promise : {Task : Type 0} → Making → (Automaton → Limit → Type 0)
    → (Status → Type 0) → (Task → Type 0) → Promise Task
make_promise making Exceeds Answers DiffersInOptions = record {
  means = MakingMeans making Exceeds;
  may_store = λ name. name ≡ making.out;
  settled_stores = λ name. name ≡ making.out;
  reads = λ name. name ≡ making.file;
  refuses = RefusesAs making.kind making.file;
  is_unrefused = IsUnrefusedAs making.kind making.file;
  answers = Answers;
  settles = IsConclusive;
  differs_in_options = DiffersInOptions;
}

-- what commands promise that have no limit and no options
abbrev pub unlimited_promise : {Task : Type 0} → (Task → Making) → Task → Promise Task
unlimited_promise making task =
    make_promise (making task) (λ one limit. ⊥) AnswersYes (λ other. other ≡ task)

-- ---- `fsaand`, `fsaor`, `fsaconcat`

-- what an operation needs its automata to read, and its construction
abbrev pub combined_kind : Combination → Kind
combined_kind combinations.And = WordsOrPairs
combined_kind combinations.Or = WordsOrPairs
combined_kind combinations.Concat = Words

abbrev pub combined_by : Combination → Construction
combined_by combinations.And = constructions.And
combined_by combinations.Or = constructions.Or
combined_by combinations.Concat = constructions.Concat

-- the automaton's language is made of those of two
abbrev pub IsCombined : Combination → Automaton → Automaton → Automaton → Type 0
IsCombined combinations.And one two made = IsIntersection one two made
IsCombined combinations.Or one two made = IsUnion one two made
IsCombined combinations.Concat one two made = IsConcatenation one two made

-- the construction counts more states than the limit
abbrev pub HasMoreCombined : Combination → Automaton → Automaton → ℕ → Type 0
HasMoreCombined combinations.And one two limit = CountedAnd one.table two.table limit
HasMoreCombined combinations.Or one two limit = CountedOr one.table two.table limit
HasMoreCombined combinations.Concat one two limit = CountedConcat one two limit

-- the automaton is over the alphabet of two, and its language is made of theirs
abbrev pub IsMadeOfTwo : Combination → Automaton → Automaton → Automaton → Type 0
IsMadeOfTwo operation one two made =
    (made.alphabet ≡ one.alphabet) × IsCombined operation one two made

-- the limit is that of the operation's construction, which counts more states
abbrev pub ExceedsCombined : Combination → ℕ → Automaton → Automaton → Limit → Type 0
ExceedsCombined operation most one two limit =
    (limit ≡ States (combined_by operation)) × HasMoreCombined operation one two most

-- another is the same but for its limit
abbrev pub combine_promise : Combine → Promise Combine
combine_promise task = record {
  means = TwoMean (combined_kind task.operation) task.one task.two (λ names one two.
      MakeMeans (IsMadeOfTwo task.operation one two)
      (ExceedsCombined task.operation task.max_states one two)
      task.out names);
  may_store = λ name. name ≡ task.out;
  settled_stores = λ name. name ≡ task.out;
  reads = λ name. (name ≡ task.one) ⊎ (name ≡ task.two);
  refuses = RefusesOfTwo (combined_kind task.operation) task.one task.two;
  is_unrefused = AreBothUnrefused (combined_kind task.operation) task.one task.two;
  answers = AnswersYesOrLimit;
  settles = IsConclusive;
  differs_in_options = λ other. other ≡ record task { max_states = other.max_states };
}

-- ---- `fsanot`, `fsaexists`, `fsastar`, `fsareverse`

abbrev pub transformed_kind : Transformation → Kind
transformed_kind transformations.Not = WordsOrPairs
transformed_kind transformations.Exists = Pairs
transformed_kind transformations.Star = Words
transformed_kind transformations.Reverse = Words

abbrev pub transformed_by : Transformation → Construction
transformed_by transformations.Not = constructions.Not
transformed_by transformations.Exists = constructions.Exists
transformed_by transformations.Star = constructions.Star
transformed_by transformations.Reverse = constructions.Reverse

-- the automaton's alphabet and language are made of those of one
abbrev pub IsTransformed : Transformation → Automaton → Automaton → Type 0
IsTransformed transformations.Not one made = (made.alphabet ≡ one.alphabet) × IsComplement one made
IsTransformed transformations.Exists one made =
    (made.alphabet ≡ Plain (generators one.alphabet)) × IsProjection one made
IsTransformed transformations.Star one made = (made.alphabet ≡ one.alphabet) × IsStar one made
IsTransformed transformations.Reverse one made =
    (made.alphabet ≡ one.alphabet) × IsReversal one made

abbrev pub HasMoreTransformed : Transformation → Automaton → ℕ → Type 0
HasMoreTransformed transformations.Not one limit = CountedNot one limit
HasMoreTransformed transformations.Exists one limit = CountedExists one limit
HasMoreTransformed transformations.Star one limit = CountedStar one limit
HasMoreTransformed transformations.Reverse one limit = CountedReverse one limit

abbrev pub ExceedsTransformed : Transformation → ℕ → Automaton → Limit → Type 0
ExceedsTransformed operation most one limit =
    (limit ≡ States (transformed_by operation)) × HasMoreTransformed operation one most

abbrev pub transform_making : Transform → Making
transform_making task = record {
  kind = transformed_kind task.operation;
  file = task.file;
  out = task.out;
  IsMade = IsTransformed task.operation;
}

-- another is the same but for its limit
abbrev pub transform_promise : Transform → Promise Transform
transform_promise task =
    make_promise (transform_making task) (ExceedsTransformed task.operation task.max_states)
    AnswersYesOrLimit (λ other. other ≡ record task { max_states = other.max_states })

-- ---- `fsamin`

-- an automaton of the same alphabet and language
abbrev pub minimise_making : Minimise → Making
minimise_making task = record {
  kind = WordsOrPairs;
  file = task.files.file;
  out = task.files.out;
  IsMade = λ one. IsMadeOf one.alphabet (AcceptsText one);
}

abbrev pub minimise_promise : Minimise → Promise Minimise
minimise_promise = unlimited_promise minimise_making
