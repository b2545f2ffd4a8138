-- The laws of printed words: they are one list, and a yes writes them all.
use Rattle.std.proofs.Common.{◌≡◌, ◌⊎◌, inl, inr, ℕ, suc, ◌<◌, List, [], ◌∷◌, ◌++◌, length, refl, sym, ◌∙◌, ap, ap₂, subst, arith}
use Rattle.std.specs.List.{AllPairs, Contains}
use Rattle.std.proofs.lemmas.List.Elements.{Contains-append_cases, Contains-append_left, Contains-append_right, Contains-push, Contains-push_cases}
use Rattle.kb_word.specs.Words.{Less}
use Rattle.kb_word.specs.ShortlexLaws.{shortlex_irreflexive, shortlex_transitive, shortlex_total}
use Rattle.kb_io.specs.Outside.{Outside}
use Rattle.kb_fsa.specs.Language.{Automaton}
use Rattle.kb_task.specs.Runs.{HasSameEffect}
use Rattle.kb_task.specs.Statuses.{AnswersYes, IsConclusive, IsFaultless, IsYes}
use Rattle.kb_task.specs.declared.status.Status.{Status}
use Rattle.kb_task.specs.declared.status.Status.TheVariants.{Yes}
use Rattle.kb_listing.specs.Asked.{AreAllAsked, lines_of_words, WordsArePrinted, printed, failed, no_memory}

-- ---- two ascending lists with the same elements are one list

none_in_empty : (word : List ℕ) → ¬ Contains {X = List ℕ} [] word
none_in_empty word here = omega (arith, here.1)

-- an element of a list is its first or one of the others
first_or_other : (x : List ℕ) (xs : List (List ℕ)) (word : List ℕ) → Contains (x ∷ xs) word
    → (x ≡ word) ⊎ Contains xs word
first_or_other x xs word here = elim (Contains-append_cases (x ∷ []) xs word here) [
  | inl first ↦ elim (Contains-push_cases [] x word first) [
    | inl none ↦ absurd (none_in_empty word none)
    | inr is ↦ inl is
  ]
  | inr other ↦ inr other
]

contains_first : (x : List ℕ) (xs : List (List ℕ)) → Contains (x ∷ xs) x
contains_first x xs = Contains-append_left (x ∷ []) xs x (Contains-push [] x)

contains_other : (x : List ℕ) (xs : List (List ℕ)) (word : List ℕ) → Contains xs word
    → Contains (x ∷ xs) word
contains_other x xs word here = Contains-append_right (x ∷ []) xs word here

others_ascend : (x : List ℕ) (xs : List (List ℕ)) → AllPairs Less (x ∷ xs) → AllPairs Less xs
others_ascend x xs ascend i j d before within = ascend (suc i) (suc j) d (omega arith) (omega arith)

first_is_less : (x : List ℕ) (xs : List (List ℕ)) (word : List ℕ) → AllPairs Less (x ∷ xs)
    → Contains xs word
    → Less x word
first_is_less x xs word ascend here =
    let within : here.0 < length xs = here.1 in
    subst (λ w. Less x w) here.2 (ascend 0 (suc here.0) word (omega arith) (omega arith))

-- the elements of the first list are among those of the second
abbrev pub AreAmong : List (List ℕ) → List (List ℕ) → Type 0
AreAmong xs ys = (word : List ℕ) → Contains xs word → Contains ys word

-- no element of a list that has both comes before its first
none_less : (x y : List ℕ) (ys : List (List ℕ)) → AllPairs Less (y ∷ ys) → Contains (y ∷ ys) x
    → ¬ Less x y
none_less x y ys ascend here less = elim (first_or_other y ys x here) [
  | inl is ↦ shortlex_irreflexive x (subst (λ w. Less x w) is less)
  | inr other ↦ shortlex_irreflexive x
      (shortlex_transitive x y x less (first_is_less y ys x ascend other))
]

one_first : (x y : List ℕ) (xs ys : List (List ℕ)) → AllPairs Less (x ∷ xs) → AllPairs Less (y ∷ ys)
    → Contains (y ∷ ys) x → Contains (x ∷ xs) y → x ≡ y
one_first x y xs ys ascend also here there = elim (shortlex_total x y) [
  | inl is ↦ is
  | inr (inl less) ↦ absurd (none_less x y ys also here less)
  | inr (inr greater) ↦ absurd (none_less y x xs ascend there greater)
]

-- the others of one list are among the others of another with the same first element
others_among : (x y : List ℕ) (xs ys : List (List ℕ)) → x ≡ y → AllPairs Less (x ∷ xs)
    → AreAmong (x ∷ xs) (y ∷ ys) → AreAmong xs ys
others_among x y xs ys is ascend among word here =
    elim (first_or_other y ys word (among word (contains_other x xs word here))) [
      | inl first ↦
          absurd (shortlex_irreflexive x
          (subst (λ w. Less x w) (sym (is ∙ first)) (first_is_less x xs word ascend here)))
      | inr other ↦ other
    ]

pub one_ascending : (xs ys : List (List ℕ)) → AllPairs Less xs → AllPairs Less ys → AreAmong xs ys
    → AreAmong ys xs
    → xs ≡ ys
one_ascending [] [] ascend also among back = refl
one_ascending [] (y ∷ ys) ascend also among back =
    absurd (none_in_empty y (back y (contains_first y ys)))
one_ascending (x ∷ xs) [] ascend also among back =
    absurd (none_in_empty x (among x (contains_first x xs)))
one_ascending (x ∷ xs) (y ∷ ys) ascend also among back =
    let first : x ≡ y =
    one_first x y xs ys ascend also (among x (contains_first x xs))
    (back y (contains_first y ys)) in
    let others : xs ≡ ys = one_ascending xs ys (others_ascend x xs ascend) (others_ascend y ys also)
    (others_among x y xs ys first ascend among) (others_among y x ys xs (sym first) also back) in
    ap₂ (λ (z : List ℕ) (zs : List (List ℕ)). z ∷ zs) first others

-- all words that are asked for are one list
pub one_listing : (automaton : Automaton) (least most : ℕ) (words others : List (List ℕ))
    → AreAllAsked automaton least most words
    → AreAllAsked automaton least most others → words ≡ others
one_listing automaton least most words others one other =
    one_ascending words others one.first.ascend other.first.ascend
    (λ word here. other.all word (one.first.asked word here))
    (λ word here. one.all word (other.first.asked word here))

-- ---- the laws

module _ (names : List (List ℕ)) (automaton : Automaton) (least most : ℕ) where
  pub words_answer : (before after : List ℕ) (status : Status) → IsFaultless status
      → WordsArePrinted names automaton least most before after status → AnswersYes status
  words_answer before after status faultless (printed all is) = tt
  words_answer before after status faultless (failed front) = cc
  words_answer before after status faultless (no_memory front) = tt

  pub words_yes : (before after : List ℕ) (status : Status) → IsConclusive status
      → WordsArePrinted names automaton least most before after status → status ≡ Yes
  words_yes before after status conclusive (printed all is) = refl
  words_yes before after status conclusive (failed front) = absurd conclusive
  words_yes before after status conclusive (no_memory front) = absurd conclusive

  -- the words that a yes wrote
  pub record WroteAll (before after : List ℕ) : Type 0 where
    pub words : List (List ℕ)
    pub all : AreAllAsked automaton least most words
    pub written : after ≡ before ++ lines_of_words names words

  pub wrote_all : (before after : List ℕ) (status : Status) → IsYes status
      → WordsArePrinted names automaton least most before after status → WroteAll before after
  wrote_all before after status is_yes (printed {words = words} all is) =
      record { words = words; all = all; written = is }
  wrote_all before after status is_yes (failed front) = absurd is_yes
  wrote_all before after status is_yes (no_memory front) = absurd is_yes

  pub one_text : (before after other_before other_after : Outside)
      → WroteAll before.output.written after.output.written
      → WroteAll other_before.output.written other_after.output.written
      → HasSameEffect (λ name. ⊥) before after other_before other_after
  one_text before after other_before other_after one other =
      let same : other.words ≡ one.words =
      one_listing automaton least most other.words one.words other.all one.all in
      record {
        bytes = lines_of_words names one.words;
        written = one.written;
        other_written =
            other.written
            ∙ ap (λ words. other_before.output.written ++ lines_of_words names words) same;
        stored = λ name none. absurd none;
      }
