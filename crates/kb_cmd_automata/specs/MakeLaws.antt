-- The laws of the commands that make an automaton and store it.
use Rattle.std.proofs.Common.{◌≡◌, ◌↔◌, ◌⊎◌, inl, inr, ℕ, List, [], Some, refl, sym, ◌∙◌, ap, subst, append-nil, reverse}
use Rattle.kb_io.specs.Outside.{Outside}
use Rattle.kb_fsa.specs.declared.alphabet.Alphabet.{Alphabet}
use Rattle.kb_fsa.specs.declared.alphabet.Alphabet.TheVariants.{Plain}
use Rattle.kb_fsa.specs.Language.{Automaton, AcceptsText, SameLanguage, IsTextOf, generators}
use Rattle.kb_fsa.specs.Counted.{IsProduct}
use Rattle.kb_fsadet.specs.Projection.{HasSecond}
use Rattle.kb_fsaprint.specs.Printed.{text_of_automaton}
use Rattle.kb_fsamin.proofs.Uniqueness.{one_canonical}
use Rattle.kb_fsarat.specs.Products.{IsSplit}
use Rattle.kb_task.specs.PromiseLaws.{yes-conclusive}
use Rattle.kb_task.specs.Promises.{Promise, IsLawful}
use Rattle.kb_task.specs.Refusals.{RefusesNone}
use Rattle.kb_task.specs.Runs.{HasSameEffect}
use Rattle.kb_task.specs.Statuses.{AnswersYes, AnswersYesOrLimit, IsConclusive, IsFaultless, IsYes}
use Rattle.kb_task.specs.declared.status.Limit.{Limit}
use Rattle.kb_task.specs.declared.status.Status.{Status}
use Rattle.kb_task.specs.declared.status.Status.TheVariants.{Yes, Refused, Undecided, No, Memory, Fault}
use Rattle.kb_cmd_automata.specs.LoadedLaws.{one_answers, one_exact, one_refused, two_answer, two_exact, two_refused, over_one, over_two}
use Rattle.kb_cmd_automata.specs.Make.{MakeMeans, StoresMade, Making, IsMadeOf, MakingMeans, make_promise, unlimited_promise, IsMadeOfTwo, ExceedsCombined, IsTransformed, ExceedsTransformed, combined_kind, combine_promise, transform_making, transform_promise, minimise_making, minimise_promise}
use Rattle.kb_cmd_automata.specs.declared.combine.Combination.{Combination}
use Rattle.kb_cmd_automata.specs.declared.combine.Combination.TheVariants as combinations
use Rattle.kb_cmd_automata.specs.declared.combine.Combine.{Combine}
use Rattle.kb_cmd_automata.specs.declared.minimise.Minimise.{Minimise}
use Rattle.kb_cmd_automata.specs.declared.transform.Transform.{Transform}
use Rattle.kb_cmd_automata.specs.declared.transform.Transformation.{Transformation}
use Rattle.kb_cmd_automata.specs.declared.transform.Transformation.TheVariants as transformations

-- ---- what is made has one language

-- what is made is known by its alphabet and the texts that it accepts
pub record IsKnown (IsMade : Automaton → Type 0) : Type 1 where
  pub alphabet : Alphabet
  pub Accepted : List ℕ → Type 0
  pub is : (made : Automaton) → IsMade made ↔ IsMadeOf alphabet Accepted made

-- what is stated by its alphabet and its texts is known by them
pub known : (alphabet : Alphabet) (Accepted : List ℕ → Type 0) → IsKnown (IsMadeOf alphabet Accepted)
known alphabet Accepted = record {
  alphabet = alphabet;
  Accepted = Accepted;
  is = λ made. ((λ is. is), (λ is. is));
}

-- two automata have one alphabet and one language
abbrev AreAlike : Automaton → Automaton → Type 0
AreAlike made other = (made.alphabet ≡ other.alphabet) × SameLanguage made other

alike : {IsMade : Automaton → Type 0} → IsKnown IsMade → (made other : Automaton) → IsMade made
    → IsMade other → AreAlike made other
alike is_known made other a b =
    let one = (is_known.is made).0 a in
    let two = (is_known.is other).0 b in (
      one.0 ∙ sym two.0,
      (λ text. (
        (λ accepts. (two.1 text).1 ((one.1 text).0 accepts)),
        (λ accepts. (one.1 text).1 ((two.1 text).0 accepts)),
      )),
    )

pub combined-known : (operation : Combination) (one two : Automaton)
    → IsKnown (IsMadeOfTwo operation one two)
combined-known combinations.And one two =
    known one.alphabet (λ text. AcceptsText one text × AcceptsText two text)
combined-known combinations.Or one two =
    known one.alphabet (λ text. AcceptsText one text ⊎ AcceptsText two text)
combined-known combinations.Concat one two = known one.alphabet (IsSplit one two)

pub transformed-known : (operation : Transformation) (one : Automaton)
    → IsKnown (IsTransformed operation one)
transformed-known transformations.Not one =
    known one.alphabet (λ text. IsTextOf one.alphabet text × ¬ AcceptsText one text)
transformed-known transformations.Exists one =
    known (Plain (generators one.alphabet)) (HasSecond one)
transformed-known transformations.Star one = known one.alphabet (IsProduct one)
transformed-known transformations.Reverse one =
    known one.alphabet (λ text. AcceptsText one (reverse text))

-- ---- what is made and stored

module _ (IsMade : Automaton → Type 0) (out : List ℕ) (names : List (List ℕ)) where
  -- where no device failed there is an answer
  make_answers : (Exceeds : Limit → Type 0) (Answers : Status → Type 0) → Answers Yes → Answers Memory
      → ((limit : Limit) → Exceeds limit → Answers (Undecided limit))
      → (before after : Outside) (status : Status) → IsFaultless status
      → MakeMeans IsMade Exceeds out names before after status → Answers status
  make_answers Exceeds Answers on_yes on_memory limits before after Yes faultless means = on_yes
  make_answers Exceeds Answers on_yes on_memory limits before after (Undecided limit) faultless means =
      limits limit means.0
  make_answers Exceeds Answers on_yes on_memory limits before after Memory faultless means = on_memory
  make_answers Exceeds Answers on_yes on_memory limits before after (Fault which) faultless means = cc
  make_answers Exceeds Answers on_yes on_memory limits before after _ faultless means = absurd means

  -- it refuses no file
  make_refuses_none : (Exceeds : Limit → Type 0) (before after : Outside) (status : Status)
      → MakeMeans IsMade Exceeds out names before after status → RefusesNone status
  make_refuses_none Exceeds before after (Refused refusal) means = absurd means
  make_refuses_none Exceeds before after _ means = tt

  -- one status answers
  make_settled : (Exceeds : Limit → Type 0)
      → ((limit other : Limit) → Exceeds limit → Exceeds other → limit ≡ other)
      → (before after other_before other_after : Outside) (status other : Status)
      → IsConclusive status
      → IsConclusive other
      → MakeMeans IsMade Exceeds out names before after status
      → MakeMeans IsMade Exceeds out names other_before other_after other
      → status ≡ other
  make_settled Exceeds one_limit a b c d Yes Yes conclusive also means others = refl
  make_settled Exceeds one_limit a b c d Yes (Undecided limit) conclusive also means others =
      absurd (means.1 limit others.0)
  make_settled Exceeds one_limit a b c d (Undecided limit) Yes conclusive also means others =
      absurd (others.1 limit means.0)
  make_settled Exceeds one_limit a b c d (Undecided limit) (Undecided other) conclusive
      also means others =
      ap Undecided (one_limit limit other means.0 others.0)
  make_settled Exceeds one_limit a b c d (No cert) other conclusive also means others = absurd means
  make_settled Exceeds one_limit a b c d status (No cert) conclusive also means others =
      absurd others
  make_settled Exceeds one_limit a b c d Yes other conclusive also means others = absurd also
  make_settled Exceeds one_limit a b c d (Undecided limit) other conclusive also means others =
      absurd also
  make_settled Exceeds one_limit a b c d status other conclusive also means others =
      absurd conclusive

  stored_same : (before after other_before other_after : Outside)
      → ((made other : Automaton) → IsMade made → IsMade other → AreAlike made other)
      → StoresMade IsMade out names before after
      → StoresMade IsMade out names other_before other_after
      → HasSameEffect (λ name. name ≡ out) before after other_before other_after
  stored_same before after other_before other_after alike_made one other =
      let same = alike_made one.made other.made one.is_made other.is_made in
      let made : one.made ≡ other.made =
      one_canonical one.made other.made one.automaton other.automaton same.0
      one.canonical other.canonical
      same.1 in
      record {
        bytes = [];
        written = one.stores.unwritten ∙ sym (append-nil before.output.written);
        other_written = other.stores.unwritten ∙ sym (append-nil other_before.output.written);
        stored = λ name is. inl
            (ap after.shelf.holds is ∙ one.stores.stored
            ∙ ap (λ made. Some (text_of_automaton names made)) made
            ∙ sym other.stores.stored ∙ sym (ap other_after.shelf.holds is));
      }

  -- two runs that answered yes stored the same
  make_function : (Exceeds OtherExceeds : Limit → Type 0)
      → ((made other : Automaton) → IsMade made → IsMade other → AreAlike made other)
      → (before after other_before other_after : Outside) (status other : Status) → IsYes status
      → IsYes other
      → MakeMeans IsMade Exceeds out names before after status
      → MakeMeans IsMade OtherExceeds out names other_before other_after other
      → HasSameEffect (λ name. name ≡ out) before after other_before other_after
  make_function Exceeds OtherExceeds alike_made before after other_before other_after Yes Yes is_yes
      also means others =
      stored_same before after other_before other_after alike_made means.0 others.0
  make_function Exceeds OtherExceeds alike_made before after other_before other_after Yes
      other is_yes also
      means others = absurd also
  make_function Exceeds OtherExceeds alike_made before after other_before other_after status
      other is_yes also
      means others = absurd is_yes

-- ---- of one automaton

module _ {Task : Type 0} (making : Task → Making) (Exceeds : Task → Automaton → Limit → Type 0)
    (Answers : Status → Type 0) (DiffersInOptions : Task → Task → Type 0) where
  abbrev promise : Task → Promise Task
  promise task = make_promise (making task) (Exceeds task) Answers (DiffersInOptions task)

  -- commands that differ in options alone make the same
  abbrev pub MakesSame : Type 1
  MakesSame = (task other : Task) → DiffersInOptions task other → (P : Making → Type 0)
      → P (making other) → P (making task)

  -- what a command makes of an automaton is known
  abbrev pub MakesKnown : Type 1
  MakesKnown = (task : Task) (one : Automaton) → IsKnown ((making task).IsMade one)

  -- one limit is exceeded, and is an answer
  pub record HasOneLimit : Type 0 where
    pub one : (task : Task) (one : Automaton) (limit other : Limit) → Exceeds task one limit
        → Exceeds task one other → limit ≡ other
    pub answers : (task : Task) (one : Automaton) (limit : Limit) → Exceeds task one limit
        → Answers (Undecided limit)

  pub make_lawful : MakesKnown → MakesSame → HasOneLimit → Answers Yes → Answers Memory
      → (task : Task) → IsLawful promise (promise task)
  make_lawful is_known same limits on_yes on_memory task =
      let own = making task in
      record {
        complete = λ before after status means unrefused faultless.
            one_answers Answers on_memory before after status faultless own.kind own.file _
            (λ names one made. make_answers (own.IsMade one) own.out names (Exceeds task one) Answers
            on_yes on_memory (limits.answers task one) before after status faultless made)
            unrefused means;
        memory = on_memory;
        refused = λ before after name fault means at_load.
            one_refused own.kind own.file _
            (λ names one. make_refuses_none (own.IsMade one) own.out names (Exceeds task one))
            before after name fault means at_load;
        exact = λ have before after status name fault means refuses faultless.
            one_exact own.kind own.file _
            (λ names one. make_refuses_none (own.IsMade one) own.out names (Exceeds task one))
            have before after status name fault means refuses faultless;
        settled = λ before after other_before other_after status other means others same_files conclusive also.
            over_one before after other_before other_after status other conclusive also
            (status ≡ other) own.kind own.file _ _
            (λ names one made mades. make_settled (own.IsMade one) own.out names (Exceeds task one)
            (limits.one task one) before after other_before other_after status other conclusive
            also made mades)
            (same_files own.file refl) means others;
        conclusive = λ status settles. settles;
        one_function = λ other_task before after other_before other_after status other means others
            is_yes also differs same_files input.
            over_one before after other_before other_after status other
            (yes-conclusive status is_yes) (yes-conclusive other also)
            (HasSameEffect (λ name. name ≡ own.out) before after other_before other_after)
            own.kind own.file _ _
            (λ names one made mades. make_function (own.IsMade one) own.out names
            (Exceeds task one) (Exceeds other_task one) (alike (is_known task one))
            before after other_before other_after status other is_yes also made mades)
            (same_files own.file refl) means
            (same task other_task differs
            (λ m. MakingMeans m (Exceeds other_task) other_before other_after other) others);
      }

pub transform_lawful : (task : Transform) → IsLawful transform_promise (transform_promise task)
transform_lawful =
    make_lawful transform_making (λ task. ExceedsTransformed task.operation task.max_states)
    AnswersYesOrLimit (λ task other. other ≡ record task { max_states = other.max_states })
    (λ task. transformed-known task.operation)
    (λ task other is P. subst (λ t. P (transform_making t)) is)
    (record {
      one = λ task one limit found a b. a.0 ∙ sym b.0;
      answers = λ task one limit exceeds. tt;
    })
    tt tt

-- commands that have no limit and no options are lawful where what they make is known
pub unlimited_lawful : {Task : Type 0} (making : Task → Making)
    → ((task : Task) (one : Automaton) → IsKnown ((making task).IsMade one))
    → (task : Task) → IsLawful (unlimited_promise making) (unlimited_promise making task)
unlimited_lawful making is_known =
    make_lawful making (λ task one limit. ⊥) AnswersYes (λ task other. other ≡ task) is_known
    (λ task other is P. subst (λ t. P (making t)) is)
    (record {
      one = λ task one limit found a b. absurd a;
      answers = λ task one limit exceeds. absurd exceeds;
    })
    tt tt

pub minimise_lawful : (task : Minimise) → IsLawful minimise_promise (minimise_promise task)
minimise_lawful = unlimited_lawful minimise_making (λ task one. known one.alphabet (AcceptsText one))

-- ---- of two: `fsaand`, `fsaor`, `fsaconcat`

pub combine_lawful : (task : Combine) → IsLawful combine_promise (combine_promise task)
combine_lawful task = record {
  complete = λ before after status means unrefused faultless.
      two_answer AnswersYesOrLimit tt before after status faultless
      (combined_kind task.operation) task.one task.two _
      (λ names one two made. make_answers (IsMadeOfTwo task.operation one two) task.out names
      (ExceedsCombined task.operation task.max_states one two) AnswersYesOrLimit tt tt
      (λ limit exceeds. tt) before after status faultless made)
      unrefused means;
  memory = tt;
  refused = λ before after name fault means at_load.
      two_refused (combined_kind task.operation) task.one task.two _
      (λ names one two. make_refuses_none (IsMadeOfTwo task.operation one two) task.out names
      (ExceedsCombined task.operation task.max_states one two))
      before after name fault means at_load;
  exact = λ have before after status name fault means refuses faultless.
      two_exact (combined_kind task.operation) task.one task.two _
      (λ names one two. make_refuses_none (IsMadeOfTwo task.operation one two) task.out names
      (ExceedsCombined task.operation task.max_states one two))
      have before after status name fault means refuses faultless;
  settled = λ before after other_before other_after status other means others same conclusive also.
      over_two before after other_before other_after status other conclusive also (status ≡ other)
      (combined_kind task.operation) task.one task.two _ _
      (λ names one two made mades. make_settled (IsMadeOfTwo task.operation one two) task.out names
      (ExceedsCombined task.operation task.max_states one two) (λ limit found a b. a.0 ∙ sym b.0)
      before after other_before other_after status other conclusive also made mades)
      (same task.one (inl refl)) (same task.two (inr refl)) means others;
  conclusive = λ status settles. settles;
  one_function = λ other_task before after other_before other_after status other means others
      is_yes also differs same input.
      over_two before after other_before other_after status other (yes-conclusive status is_yes)
      (yes-conclusive other also)
      (HasSameEffect (λ name. name ≡ task.out) before after other_before other_after)
      (combined_kind task.operation) task.one task.two _ _
      (λ names one two made mades. make_function (IsMadeOfTwo task.operation one two) task.out names
      (ExceedsCombined task.operation task.max_states one two)
      (ExceedsCombined task.operation other_task.max_states one two)
      (alike (combined-known task.operation one two)) before after other_before other_after status
      other is_yes also made mades)
      (same task.one (inl refl)) (same task.two (inr refl)) means
      (subst (λ t. (combine_promise t).means other_before other_after other) differs others);
}
