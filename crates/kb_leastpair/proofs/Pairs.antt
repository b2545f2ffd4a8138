-- Pairs by their two words, and what the searches find of them.
use Rattle.std.proofs.Common.{◌≡◌, ◌↔◌, ℕ, ◌^◌, ◌<◌, ◌≤◌, IfNone, List, Option, Some, None, drop, sym, subst, arith}
use Rattle.std.specs.List.{All}
use Rattle.kb_word.specs.Relations.{IsOver}
use Rattle.kb_fsa.specs.declared.alphabet.Alphabet.TheVariants.{Pair}
use Rattle.kb_fsa.specs.Language.{Automaton, IsAutomaton, generators}
use Rattle.kb_explore.specs.Machine.{MachineAccepts}
use Rattle.kb_explore.specs.FirstAccepted.{IsLeastAccepted as IsLeastRead}
use Rattle.kb_fsadet.specs.Nondeterministic.{Nondeterministic, AcceptsSomehow}
use Rattle.kb_fsadet.specs.FirstWords.{IsFirstWords}
use Rattle.kb_fsadet.specs.Projection.{HasSecond}
use Rattle.kb_fsadet.proofs.Projections.{is_projection, texts_of_pairs}
use Rattle.kb_fsaleast.specs.LeastText.{IsLeastAccepted}
use Rattle.kb_leastpair.specs.LeastPair.{IsAccepted, IsEnd, IsLeastPair, IsLeastWord}
use Rattle.kb_leastpair.specs.SecondWords.{second_words}
use Rattle.kb_leastpair.proofs.SecondRuns.{second_accepted}

-- letters are numbers of 16 bits
pub letters_fit : (n : ℕ) (word : List ℕ) → n ≤ 65534 → IsOver n word → All (λ letter. letter < 2 ^ 16) word
letters_fit n word few over i d within = let letter = over i d within in omega (arith, letter.1)

-- what is said where nothing is found
pub none_kept : {X P Q : Type 0} (found : Option X) → (P → Q) → IfNone found P → IfNone found Q
none_kept None implies none = implies none
none_kept (Some x) implies none = none

module _ (pairs : Automaton) (k : ℕ) (pair : pairs.alphabet ≡ Pair k) (is : IsAutomaton pairs) (words : Nondeterministic)
    (reads : IsFirstWords pairs words) where
  projected : (word : List ℕ) → AcceptsSomehow words word ↔ HasSecond pairs word
  projected = is_projection pairs is.table (texts_of_pairs pairs k pair is) words reads

  pub first_fits : (word : List ℕ) → AcceptsSomehow words word → All (λ letter. letter < 2 ^ 16) word
  first_fits word accepts = letters_fit (generators pairs.alphabet) word is.generators ((projected word).0 accepts).first_over

  pub least_first_word : (word : List ℕ) → IsLeastAccepted words word → IsLeastWord (HasSecond pairs) word
  least_first_word word least = record {
    holds = (projected word).0 least.accepted;
    least = λ other has. least.least other ((projected other).1 has);
  }

  pub no_first_word : ((word : List ℕ) → ¬ AcceptsSomehow words word) → (word : List ℕ) → ¬ HasSecond pairs word
  no_first_word none word has = none word ((projected word).1 has)

module _ (pairs : Automaton) (n : ℕ) (is_n : n ≡ generators pairs.alphabet) (first : List ℕ) (place state : ℕ) where
  abbrev End : List ℕ → Type 0
  End = IsEnd pairs state (drop place first)

  means : (second : List ℕ) → MachineAccepts (second_words n pairs.table first place state) second ↔ End second
  means second =
      let P : ℕ → Type 0 = λ k. MachineAccepts (second_words k pairs.table first place state) second ↔ End second in
      let k = generators pairs.alphabet in
      let accepted = second_accepted k pairs.table first place state second in
      subst P (sym is_n) (
        λ accepts. let both = accepted.0 accepts in record { second_over = both.0; accepted = both.1 },
        λ pair. accepted.1 (pair.second_over, pair.accepted),
      )

  pub second_fits : n ≤ 65534 → (second : List ℕ) → MachineAccepts (second_words n pairs.table first place state) second
      → All (λ letter. letter < 2 ^ 16) second
  second_fits few second accepts =
      letters_fit (generators pairs.alphabet) second (omega (arith, few, is_n)) ((means second).0 accepts).second_over

  pub least_end_word : (second : List ℕ) → IsLeastRead (second_words n pairs.table first place state) second → IsLeastWord End second
  least_end_word second least = record {
    holds = (means second).0 least.accepted;
    least = λ other accepted. least.least other ((means other).1 accepted);
  }

  pub no_end_word : ((second : List ℕ) → ¬ MachineAccepts (second_words n pairs.table first place state) second)
      → (second : List ℕ) → ¬ End second
  no_end_word none second accepted = none second ((means second).1 accepted)

-- a pair is accepted where it leads from the initial state to acceptance
module _ (pairs : Automaton) (first : List ℕ) (over : IsOver (generators pairs.alphabet) first) where
  pub least_second_word : (second : List ℕ) → IsLeastWord (IsEnd pairs pairs.table.initial first) second
      → IsLeastWord (IsAccepted pairs first) second
  least_second_word second least = record {
    holds = record { first_over = over; second_over = least.holds.second_over; accepted = least.holds.accepted };
    least = λ other pair. least.least other (record { second_over = pair.second_over; accepted = pair.accepted });
  }

  pub no_second_word : ((second : List ℕ) → ¬ IsEnd pairs pairs.table.initial first second)
      → (second : List ℕ) → ¬ IsAccepted pairs first second
  no_second_word none second pair = none second (record { second_over = pair.second_over; accepted = pair.accepted })

module _ (pairs : Automaton) where
  has_second : (first second : List ℕ) → IsAccepted pairs first second → HasSecond pairs first
  has_second first second pair = record {
    second = second;
    first_over = pair.first_over;
    second_over = pair.second_over;
    accepts = pair.accepted;
  }

  pub no_pair : ((word : List ℕ) → ¬ HasSecond pairs word) → (first second : List ℕ) → ¬ IsAccepted pairs first second
  no_pair none first second pair = none first (has_second first second pair)

  pub least_of_words : (first second : List ℕ) → IsLeastWord (HasSecond pairs) first → IsLeastWord (IsAccepted pairs first) second
      → IsLeastPair (IsAccepted pairs) first second
  least_of_words first second one two = record {
    holds = two.holds;
    least_first = λ u v pair. one.least u (has_second u v pair);
    least_second = two.least;
  }

  -- a word that has a second one isn't without
  pub one_has_second : (first : List ℕ) → IsLeastWord (HasSecond pairs) first → ¬ ((second : List ℕ) → ¬ IsAccepted pairs first second)
  one_has_second first one none =
      let has = one.holds in
      none has.second (record { first_over = has.first_over; second_over = has.second_over; accepted = has.accepts })
