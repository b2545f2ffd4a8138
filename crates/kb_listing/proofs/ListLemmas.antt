-- How the listing of accepted words comes on.
use Rattle.std.proofs.Common.{◌≡◌, ◌⊎◌, inl, inr, ℕ, zero, suc, ◌+◌, ◌*◌, ◌^◌, ◌<◌, ◌≤◌, Bool, true, false, List, [], ◌∷◌, ◌++◌, length, get_or, Option, Some, None, IfSome, All, refl, sym, ◌∙◌, ap, subst, append_assoc, append-nil, length-append, arith}
use Rattle.std.specs.List.{AllPairs, Contains}
use Rattle.std.proofs.Math.Nat.{mul-le-mul_left}
use Rattle.std.proofs.Math.Seq.{get_or-append_seam}
use Rattle.std.proofs.lemmas.List.{get_or_append_left}
use Rattle.std.proofs.lemmas.Bool.{cases_lt}
use Rattle.std.proofs.lemmas.List.Elements.{All-head, All-tail, Contains-append_left, Contains-push, Contains-push_cases, Contains-get_or}
use Rattle.kb_io.specs.Bytes.{AppendsPrefix, newline}
use Rattle.kb_word.specs.Words.{Less}
use Rattle.kb_word.specs.Order.{rank}
use Rattle.kb_word.specs.ShortlexLaws.{shortlex_transitive, shortlex_total}
use Rattle.kb_fsa.specs.Language.{Automaton}
use Rattle.kb_fsarat.specs.Enumeration.{Enumeration, ComesAfter, IsLeft, IsNext}
use Rattle.kb_word.specs.Printed.{text_of_word}
use Rattle.kb_task.specs.declared.status.Status.{Status}
use Rattle.kb_task.specs.declared.status.Status.TheVariants.{Yes, Memory, Fault}
use Rattle.kb_task.specs.declared.status.Which.TheVariants.{Output}
use Rattle.kb_listing.specs.Asked.{IsAsked, AreAllAsked, IsFrontOfWords, lines_of_words, WordsArePrinted, printed, failed, no_memory}
use Rattle.kb_listing.specs.Listed.{HasGiven, Listed, HasLetters, Steps, EnumerationIsPrinted, over, word_count, next_rank}

-- one more element, behind which all the others stand
pairs-snoc : {X : Type 0} (R : X → X → Type 0) (xs : List X) (x : X) → AllPairs R xs → ((y : X) → Contains xs y → R y x) → AllPairs R (xs ++ x ∷ [])
pairs-snoc R xs x pairs behind i j d before within =
    let size : length (xs ++ x ∷ []) ≡ length xs + 1 = length-append xs (x ∷ []) in
    let first : get_or (xs ++ x ∷ []) i d ≡ get_or xs i d = get_or_append_left xs (x ∷ []) d i (omega arith) in
    elim (cases_lt j (length xs)) [
      | inl inside ↦ subst (λ a. R a (get_or (xs ++ x ∷ []) j d)) (sym first)
          (subst (λ b. R (get_or xs i d) b) (sym (get_or_append_left xs (x ∷ []) d j inside)) (pairs i j d before inside))
      | inr past ↦
          let last : j ≡ length xs = omega arith in
          subst (λ a. R a (get_or (xs ++ x ∷ []) j d)) (sym first)
          (subst (λ b. R (get_or xs i d) b) (sym (ap (λ k. get_or (xs ++ x ∷ []) k d) last ∙ get_or-append_seam xs x [] d))
          (behind (get_or xs i d) (Contains-get_or xs i d (omega arith))))
    ]

-- nothing is given yet
pub given-start : (automaton : Automaton) (least most : ℕ) → HasGiven (record { automaton = automaton; min = least; max = most; given = None }) []
given-start automaton least most = record {
  first = record {
    ascend = λ i j d before within. absurd (omega (arith, within));
    asked = λ word here. absurd (omega (arith, here.1));
    none_before = λ word other here asked less. absurd (omega (arith, here.1));
  };
  others = λ other asked. inr (record { accepted = asked.accepted; least_length = asked.least_length; most_length = asked.most_length; after = tt });
  behind = λ given other here left. absurd (omega (arith, here.1));
}

module _ (enumeration : Enumeration) (words : List (List ℕ)) (next : List ℕ) (given : HasGiven enumeration words) (is_next : IsNext enumeration next) where
  is_asked : (word : List ℕ) → Contains (words ++ next ∷ []) word → IsAsked enumeration.automaton enumeration.min enumeration.max word
  is_asked word here = elim (Contains-push_cases words next word here) [
    | inl old ↦ given.first.asked word old
    | inr same ↦ subst (λ w. IsAsked enumeration.automaton enumeration.min enumeration.max w) same
        (record { accepted = is_next.left.accepted; least_length = is_next.left.least_length; most_length = is_next.left.most_length })
  ]

  before_next : (other : List ℕ) → IsAsked enumeration.automaton enumeration.min enumeration.max other → Less other next → Contains (words ++ next ∷ []) other
  before_next other asked less = elim (given.others other asked) [
    | inl old ↦ Contains-append_left words (next ∷ []) other old
    | inr left ↦ absurd (is_next.least other left less)
  ]

  none_before : (word other : List ℕ) → Contains (words ++ next ∷ []) word → IsAsked enumeration.automaton enumeration.min enumeration.max other
      → Less other word → Contains (words ++ next ∷ []) other
  none_before word other here asked less = elim (Contains-push_cases words next word here) [
    | inl old ↦ Contains-append_left words (next ∷ []) other (given.first.none_before word other old asked less)
    | inr same ↦ before_next other asked (subst (λ w. Less other w) (sym same) less)
  ]

  still : (other : List ℕ) → IsLeft enumeration other → Less next other → IsLeft (record enumeration { given = Some next }) other
  still other left less = record { accepted = left.accepted; least_length = left.least_length; most_length = left.most_length; after = less }

  or_next : (other : List ℕ) → IsLeft enumeration other → Contains (words ++ next ∷ []) other ⊎ IsLeft (record enumeration { given = Some next }) other
  or_next other left = elim (shortlex_total other next) [
    | inl same ↦ inl (subst (λ w. Contains (words ++ next ∷ []) w) (sym same) (Contains-push words next))
    | inr apart ↦ elim apart [
      | inl less ↦ absurd (is_next.least other left less)
      | inr greater ↦ inr (still other left greater)
    ]
  ]

  others : (other : List ℕ) → IsAsked enumeration.automaton enumeration.min enumeration.max other
      → Contains (words ++ next ∷ []) other ⊎ IsLeft (record enumeration { given = Some next }) other
  others other asked = elim (given.others other asked) [
    | inl old ↦ inl (Contains-append_left words (next ∷ []) other old)
    | inr left ↦ or_next other left
  ]

  behind : (word other : List ℕ) → Contains (words ++ next ∷ []) word → IsLeft (record enumeration { given = Some next }) other → Less word other
  behind word other here left = elim (Contains-push_cases words next word here) [
    | inl old ↦ shortlex_transitive word next other (given.behind word next old is_next.left) left.after
    | inr same ↦ subst (λ w. Less w other) same left.after
  ]

  -- the next word is given
  pub given-more : HasGiven (record enumeration { given = Some next }) (words ++ next ∷ [])
  given-more = record {
    first = record {
      ascend = pairs-snoc Less words next given.first.ascend (λ word here. given.behind word next here is_next.left);
      asked = is_asked;
      none_before = none_before;
    };
    others = others;
    behind = behind;
  }

-- all words are given
pub given-all : (enumeration : Enumeration) (words : List (List ℕ)) → HasGiven enumeration words → ((word : List ℕ) → ¬ IsLeft enumeration word)
    → AreAllAsked enumeration.automaton enumeration.min enumeration.max words
given-all enumeration words given none = record {
  first = given.first;
  all = λ word asked. elim (given.others word asked) [ inl here ↦ here | inr left ↦ absurd (none word left) ];
}

-- the line of one more word
lines-snoc : (names words : List (List ℕ)) (next : List ℕ)
    → lines_of_words names (words ++ next ∷ []) ≡ lines_of_words names words ++ (text_of_word names next ++ newline ∷ [])
lines-snoc names [] next = refl
lines-snoc names (first ∷ words) next =
    ap (λ rest. text_of_word names first ++ newline ∷ rest) (lines-snoc names words next)
    ∙ sym (append_assoc (text_of_word names first) (newline ∷ lines_of_words names words) (text_of_word names next ++ newline ∷ []))

pub listed-start : (names : List (List ℕ)) (automaton : Automaton) (least most : ℕ) (written : List ℕ)
    → Listed names (record { automaton = automaton; min = least; max = most; given = None }) written written []
listed-start names automaton least most written = record {
  words = [];
  given = given-start automaton least most;
  sent = [];
  appended = sym (append-nil written);
  held = refl;
}

pub listed-more : (names : List (List ℕ)) (enumeration after : Enumeration) (before written pending shown pending' next : List ℕ)
    → Listed names enumeration before written pending → IsNext enumeration next → after ≡ record enumeration { given = Some next }
    → shown ≡ pending ++ text_of_word names next → pending' ≡ shown ++ newline ∷ [] → Listed names after before written pending'
listed-more names enumeration after before written pending shown pending' next listed is_next is prints ends =
    subst (λ e. Listed names e before written pending') (sym is) (record {
      words = listed.words ++ next ∷ [];
      given = given-more enumeration listed.words next listed.given is_next;
      sent = listed.sent;
      appended = listed.appended;
      held = lines-snoc names listed.words next ∙ ap (λ l. l ++ (text_of_word names next ++ newline ∷ [])) listed.held
          ∙ append_assoc listed.sent pending (text_of_word names next ++ newline ∷ [])
          ∙ ap (λ l. listed.sent ++ l) (sym (append_assoc pending (text_of_word names next) (newline ∷ []))
          ∙ ap (λ l. l ++ newline ∷ []) (sym prints) ∙ sym ends);
    })

pub listed-sent : (names : List (List ℕ)) (enumeration : Enumeration) (before written pending now none : List ℕ)
    → Listed names enumeration before written pending → now ≡ written ++ pending → none ≡ [] → Listed names enumeration before now none
listed-sent names enumeration before written pending now none listed sent empty = record {
  words = listed.words;
  given = listed.given;
  sent = listed.sent ++ pending;
  appended = sent ∙ ap (λ w. w ++ pending) listed.appended ∙ append_assoc before listed.sent pending;
  held = listed.held ∙ sym (append-nil (listed.sent ++ pending)) ∙ ap (λ l. (listed.sent ++ pending) ++ l) (sym empty);
}

-- where a front of what is pending was sent
listed-front : (names : List (List ℕ)) (enumeration : Enumeration) (before written pending now : List ℕ)
    → Listed names enumeration before written pending → AppendsPrefix written now pending
    → IsFrontOfWords names enumeration.automaton enumeration.min enumeration.max before now
listed-front names enumeration before written pending now listed appends = record {
  words = listed.words;
  first = listed.given.first;
  front = record {
    prefix = listed.sent ++ appends.prefix;
    rest = appends.rest;
    splits = listed.held ∙ ap (λ p. listed.sent ++ p) appends.splits ∙ sym (append_assoc listed.sent appends.prefix appends.rest);
    appends = appends.appends ∙ ap (λ w. w ++ appends.prefix) listed.appended ∙ append_assoc before listed.sent appends.prefix;
  };
}

-- the output failed after a front of what is pending
pub listed-failed : (names : List (List ℕ)) (enumeration : Enumeration) (before written pending now : List ℕ)
    → Listed names enumeration before written pending → AppendsPrefix written now pending
    → EnumerationIsPrinted names enumeration before now (Fault Output)
listed-failed names enumeration before written pending now listed appends =
    failed (listed-front names enumeration before written pending now listed appends)

-- memory ran out before more was sent
pub listed-no_memory : (names : List (List ℕ)) (enumeration : Enumeration) (before written pending : List ℕ)
    → Listed names enumeration before written pending → EnumerationIsPrinted names enumeration before written Memory
listed-no_memory names enumeration before written pending listed =
    no_memory (listed-front names enumeration before written pending written listed
    (record { prefix = []; rest = pending; splits = refl; appends = sym (append-nil written) }))

-- a word's rank is below the number of words that are no longer
rank-below : (word : List ℕ) → All (λ letter. letter < 2 ^ 16) word → rank word < word_count (length word)
rank-below [] letters = omega arith
rank-below (x ∷ word) letters =
    let p : ℕ = (2 ^ 16) ^ length word in
    let first : x < 2 ^ 16 = All-head (λ letter. letter < 2 ^ 16) x word letters in
    let step : p * (x + 1) ≤ p * 2 ^ 16 = mul-le-mul_left p (omega arith) in
    omega (arith, rank-below word (All-tail (λ letter. letter < 2 ^ 16) x word letters))

word_count-kept : (n m : ℕ) → n ≤ m → word_count n ≤ word_count m
word_count-kept n zero le = let none : n ≡ 0 = omega arith in let e = ap word_count none in omega arith
word_count-kept n (suc m) le = elim (cases_lt m n) [
  | inl less ↦ (let same : n ≡ suc m = omega arith in let e = ap word_count same in omega arith)
  | inr within ↦ (let more = word_count-kept n m within in omega arith)
]

-- the next word's rank is within the number of words
pub next-within : (word : List ℕ) (most : ℕ) → All (λ letter. letter < 2 ^ 16) word → length word ≤ most → next_rank (Some word) ≤ word_count most
next-within word most letters short = omega (arith, rank-below word letters, word_count-kept (length word) most short)

-- the rank rises from the word that was given to the next
pub next-rises : (falls : (u v : List ℕ) → All (λ x. x < 2 ^ 16) u → All (λ x. x < 2 ^ 16) v → Less u v → rank u < rank v)
    (enumeration : Enumeration) (given : Option (List ℕ)) (word : List ℕ) → given ≡ enumeration.given → IfSome given (All (λ x. x < 2 ^ 16))
    → All (λ x. x < 2 ^ 16) word → IsLeft enumeration word → next_rank given < next_rank (Some word)
next-rises falls enumeration None word is letters word_letters left = omega arith
next-rises falls enumeration (Some last) word is letters word_letters left =
    let after : Less last word = subst (λ g. ComesAfter g word) (sym is) left.after in
    omega (arith, falls last word letters word_letters after)

-- the enumeration went on to the next word
pub steps-more : ((u v : List ℕ) → All (λ x. x < 2 ^ 16) u → All (λ x. x < 2 ^ 16) v → Less u v → rank u < rank v)
    → (before after : Enumeration) (word : List ℕ) → HasLetters before → All (λ x. x < 2 ^ 16) word → IsNext before word
    → after ≡ record before { given = Some word } → Steps before after true
steps-more falls before after word letters word_letters is_next is =
    subst (λ e. Steps before e true) (sym is) (record {
      same = refl;
      letters = word_letters;
      further = λ _. next-rises falls before before.given word refl letters word_letters is_next.left;
      within = λ _. next-within word before.max word_letters is_next.left.most_length;
      ended = λ not_ended. let no : true ≡ false = not_ended in cc;
    })

-- the enumeration is at its end
pub steps-ended : (before after : Enumeration) → HasLetters before → ((word : List ℕ) → ¬ IsLeft before word) → after ≡ before → Steps before after false
steps-ended before after letters none is =
    subst (λ e. Steps before e false) (sym is) (record {
      same = refl;
      letters = letters;
      further = λ ended. let no : false ≡ true = ended in cc;
      within = λ ended. let no : false ≡ true = ended in cc;
      ended = λ _. none;
    })

-- all that is asked for is written
pub listing-ended : (names : List (List ℕ)) (automaton : Automaton) (least most : ℕ) (enumeration : Enumeration) (before written pending : List ℕ)
    → enumeration ≡ over automaton least most enumeration.given
    → Listed names enumeration before written pending → pending ≡ [] → ((word : List ℕ) → ¬ IsLeft enumeration word)
    → WordsArePrinted names automaton least most before written Yes
listing-ended names automaton least most enumeration before written pending is listed empty none =
    printed (subst (λ (e : Enumeration). AreAllAsked e.automaton e.min e.max listed.words) is (given-all enumeration listed.words listed.given none))
    (listed.appended ∙ ap (λ s. before ++ s) (sym (append-nil listed.sent) ∙ ap (λ p. listed.sent ++ p) (sym empty) ∙ sym listed.held))

-- a listing that stopped
pub listing-stopped : (names : List (List ℕ)) (automaton : Automaton) (least most : ℕ) (enumeration : Enumeration) (before written : List ℕ) (status : Status)
    → enumeration ≡ over automaton least most enumeration.given → EnumerationIsPrinted names enumeration before written status
    → WordsArePrinted names automaton least most before written status
listing-stopped names automaton least most enumeration before written status is stops =
    subst (λ (e : Enumeration). EnumerationIsPrinted names e before written status) is stops

-- the listing that stopped after one more word was given
pub stopped-before : (names : List (List ℕ)) (before after : Enumeration) (more : Bool) (begun written : List ℕ) (status : Status) → Steps before after more
    → EnumerationIsPrinted names after begun written status → EnumerationIsPrinted names before begun written status
stopped-before names before after more begun written status steps stops =
    subst (λ (e : Enumeration). EnumerationIsPrinted names e begun written status) steps.same stops
