-- The next word of an enumeration.
use Rattle.std.proofs.Common.{◌≡◌, ℕ, ◌+◌, ◌<◌, ◌≤◌, List, length, Option, Some, None, Result, Ok, Err, refl, sym, arith}
use Rattle.std.specs.Result.{IfOk}
use Rattle.std.specs.Option.{IfSome, IfNone}
use Rattle.kb_word.specs.Words.{Less, shorter, earlier, IsEarlier}
use Rattle.kb_word.specs.declared.memory.Memory.{Memory}
use Rattle.kb_fsa.specs.Language.{Automaton}
use Rattle.kb_fsarat.specs.Successors.{NoneLater, IsNextFrom, NoneOfLength, IsFirstOfLength}
use Rattle.kb_fsarat.specs.Enumeration.{ComesAfter, IsLeft, IsNext}
use Rattle.kb_fsarat.specs.Enumerating.{IsGiven, IsNextOf}

-- what comes after a word in the shortlex order is longer, or as long and later
less_cases : (u v : List ℕ) → Less u v → (Goal : Type 0) → (length u < length v → Goal) → (length u ≡ length v → IsEarlier u v → Goal) → Goal
less_cases u v (shorter less) Goal long same = long less
less_cases u v (earlier equal first) Goal long same = same equal first

module _ (automaton : Automaton) (min max : ℕ) where
  -- the next word of the same length is the least that is left
  pub next_of_same_length : (given next : List ℕ) → IsGiven automaton min max given → IsNextFrom automaton.table automaton.table.initial given next
      → IsNext (record { automaton = automaton; min = min; max = max; given = Some given }) next
  next_of_same_length given next is found =
      let long = found.long in
      let low = is.least_length in
      let high = is.most_length in
      record {
        left = record {
          accepted = found.accepts;
          least_length = omega arith;
          most_length = omega arith;
          after = earlier (sym long) found.later;
        };
        least = λ other left before.
            less_cases given other left.after ⊥
            (λ longer. less_cases other next before ⊥ (λ less. omega arith) (λ equal first. omega arith))
            (λ equal later. less_cases other next before ⊥ (λ less. omega arith)
            (λ same first. found.earliest other (sym equal) left.accepted later first));
      }

  -- the lengths from here on are those of the words that are left
  pub record GoesOnFrom (given : Option (List ℕ)) (low : ℕ) : Type 0 where
    from : min ≤ low
    longer : (word : List ℕ) → IsLeft (record { automaton = automaton; min = min; max = max; given = given }) word → low ≤ length word
    after : (word : List ℕ) → low ≤ length word → ComesAfter given word

  pub from_start : GoesOnFrom None min
  from_start = record { from = omega arith; longer = λ word left. left.least_length; after = λ word long. tt }

  pub from_longer : (given : List ℕ) → IsGiven automaton min max given → NoneLater automaton.table automaton.table.initial given
      → GoesOnFrom (Some given) (length given + 1)
  from_longer given is none = record {
    from = let low = is.least_length in omega arith;
    longer = λ word left.
        less_cases given word left.after (length given + 1 ≤ length word) (λ less. omega arith)
        (λ equal later. absurd (none word (sym equal) left.accepted later));
    after = λ word long. shorter (omega arith);
  }

  pub first_is_next : (given : Option (List ℕ)) (low : ℕ) (word : List ℕ) → GoesOnFrom given low → IsFirstOfLength automaton.table low max word
      → IsNext (record { automaton = automaton; min = min; max = max; given = given }) word
  first_is_next given low word goes first =
      let from = goes.from in
      let least_length = first.least_length in
      record {
        left = record {
          accepted = first.least.accepts;
          least_length = omega arith;
          most_length = first.most_length;
          after = goes.after word least_length;
        };
        least = λ other left before.
            let long = goes.longer other left in
            less_cases other word before ⊥
            (λ less. first.none_shorter (length other) long less (record { text = other; long = refl; accepts = left.accepted }))
            (λ equal earlier_there. first.least.least other equal left.accepted earlier_there);
      }

  pub none_is_left : (given : Option (List ℕ)) (low : ℕ) → GoesOnFrom given low → NoneOfLength automaton.table low (max + 1)
      → (word : List ℕ) → ¬ IsLeft (record { automaton = automaton; min = min; max = max; given = given }) word
  none_is_left given low goes none word left =
      let high = left.most_length in
      none (length word) (goes.longer word left) (omega arith) (record { text = word; long = refl; accepts = left.accepted })

  pub next_by_length : (given : Option (List ℕ)) (low : ℕ) (r : Result (Option (List ℕ)) Memory) → GoesOnFrom given low
      → IfOk r (λ found. IfSome found (IsFirstOfLength automaton.table low max))
      → IfOk r (λ found. IfNone found (NoneOfLength automaton.table low (max + 1)))
      → IfOk r (IsNextOf (record { automaton = automaton; min = min; max = max; given = given }))
  next_by_length given low (Ok (Some word)) goes some none = first_is_next given low word goes some
  next_by_length given low (Ok None) goes some none = none_is_left given low goes none
  next_by_length given low (Err e) goes some none = tt
