-- The states on ways on which no left side has ended yet, level by level.
use Rattle.std.proofs.Common.{◌≡◌, ◌≢◌, ℕ, zero, suc, ◌+◌, ◌-◌, ◌<◌, ◌≤◌, ◌⊎◌, List, [], ◌∷◌, ◌++◌, length, take, drop, refl, sym, ap, ◌∙◌, subst, inl, inr, arith, append_assoc}
use Rattle.std.specs.List.{Contains}
use Rattle.std.proofs.lemmas.Bool.{cases_lt}
use Rattle.std.proofs.lemmas.List.{append-nil, length_push, nil_from_length, take-append-drop, take_at}
use Rattle.kb_word.specs.Words.{Pair, OneOf, EndsWith}
use Rattle.kb_word.specs.Rewriting.{IsIrreducible}
use Rattle.kb_rules.specs.Ending.{NoneEnds}
use Rattle.kb_rules.proofs.Lists.{cases_list, FromEnd, from_end}
use Rattle.kb_rules.proofs.Lists.FromEnd.{empty, last}
use Rattle.kb_rules.proofs.Endings.{irreducible_more, irreducible_front}
use Rattle.kb_trie.specs.States.{AreWords, word}
use Rattle.kb_trie.specs.Steps.{IsLongestSuffix, IsStep}
use Rattle.kb_trie.proofs.Longest.{EndsBy, ends_by, longest_nil}
use Rattle.kb_trie.proofs.Suffixes.{ends_all, ends_length, ends_push, ends_within, ends_shorter, same_ends}
use Rattle.kb_index.specs.Automata.{StandsFor}
use Rattle.kb_overlap.specs.Prefixes.{AreWordsOf, GoesOn}
use Rattle.kb_overlap.specs.Ways.{AreReached, Gains, IsReached}
use Rattle.kb_overlap.proofs.Gaining.{Over}
use Rattle.kb_overlap.proofs.Suffixed.{none_of_state, stands_step, longer_some}

-- some state stands for a word, among so many
record IsSpelled (words : List (List ℕ)) (count : ℕ) (w : List ℕ) : Type 0 where
  state : ℕ
  within : state < count
  is : word words state ≡ w

spelled : (words : List (List ℕ)) (count : ℕ) (w : List ℕ) → IsSpelled words count w ⊎ ((state : ℕ) → state < count → word words state ≢ w)
spelled words zero w = inr (λ state within same. absurd (let no : ⊥ = omega arith in no))
spelled words (suc count) w =
    elim (cases_list (word words count) w) [
      | inl same ↦ inl (record { state = count; within = omega arith; is = same })
      | inr apart ↦
          elim (spelled words count w) [
            | inl found ↦ inl (record { state = found.state; within = let within = found.within in omega arith; is = found.is })
            | inr none ↦
                inr (λ state within same.
                elim (cases_lt state count) [
                  | inl earlier ↦ none state earlier same
                  | inr late ↦ let here : count ≡ state = omega arith in apart (ap (word words) here ∙ same)
                ])
          ]
    ]

-- the state of a word's longest suffix
pub record IsStanding (words : List (List ℕ)) (w : List ℕ) : Type 0 where
  pub state : ℕ
  pub stands : StandsFor words w state

pub standing : (words : List (List ℕ)) → AreWords words → (w : List ℕ) → IsStanding words w
standing words are [] = record { state = 0; stands = record { within = are.some; longest = longest_nil words are } }
standing words are (x ∷ w) =
    let later : IsStanding words w = standing words are w in
    elim (spelled words (length words) (x ∷ w)) [
      | inl found ↦
          let P : List ℕ → Type 0 = λ u. IsLongestSuffix words (x ∷ w) u in
          record {
            state = found.state;
            stands = record {
              within = found.within;
              longest = subst P (sym found.is) (record { ends = ends_all (x ∷ w); longest = λ other in_words ends. ends });
            };
          }
      | inr none ↦ record {
        state = later.state;
        stands = record {
          within = later.stands.within;
          longest = record {
            ends = let ends = later.stands.longest.ends in (x ∷ ends.0, ap (λ (u : List ℕ). x ∷ u) ends.1);
            longest = λ other in_words ends.
                elim (ends_shorter (x ∷ w) (word words other) ends) [
                  | inl same ↦ absurd (none other in_words same)
                  | inr shorter ↦ later.stands.longest.longest other in_words shorter
                ];
          };
        };
      }
    ]

only_one : (x y : ℕ) → Contains (x ∷ []) y → x ≡ y
only_one x y (zero, low, same) = same
only_one x y (suc k, low, same) = absurd (let no : ⊥ = omega arith in no)

-- one state stands for the longest suffix
pub one_stands : (words : List (List ℕ)) → AreWords words → (w : List ℕ) (state other : ℕ) → StandsFor words w state → StandsFor words w other
    → state ≡ other
one_stands words are w state other one two =
    are.apart state other one.within two.within
    (same_ends (word words state) (word words other) (one.longest.longest other two.within two.longest.ends)
    (two.longest.longest state one.within one.longest.ends))

take_none : (n : ℕ) → take n [] ≡ ◌++◌ {A = ℕ} [] []
take_none zero = refl
take_none (suc n) = refl

-- a way is empty or ends with a letter
record IsLonger (way : List ℕ) (count : ℕ) : Type 0 where
  front : List ℕ
  letter : ℕ
  is : way ≡ front ++ letter ∷ []
  count_is : length front ≡ count

longer_of : (way : List ℕ) (count : ℕ) → length way ≡ count + 1 → FromEnd way → IsLonger way count
longer_of way count long empty = absurd (let no : ⊥ = omega arith in no)
longer_of way count long (last front x) = record {
  front = front;
  letter = x;
  is = refl;
  count_is = omega (arith, length_push front x);
}

-- where no left side ends, and none stands before the last letter, none stands
irreducible_there : (rules : List Pair) (tail way : List ℕ) (count : ℕ) → length way ≡ count → FromEnd way
    → IsIrreducible (OneOf rules) (tail ++ take (count - 1) way) → NoneEnds rules (tail ++ way) → IsIrreducible (OneOf rules) (tail ++ way)
irreducible_there rules tail way count long empty irreducible none =
    let P : List ℕ → Type 0 = λ w. IsIrreducible (OneOf rules) (tail ++ w) in
    subst P (take_none (count - 1)) irreducible
irreducible_there rules tail way count long (last front x) irreducible none =
    let fits : length front ≡ count - 1 = omega (arith, length_push front x) in
    let P : List ℕ → Type 0 = λ w. IsIrreducible (OneOf rules) (tail ++ w) in
    let Q : List ℕ → Type 0 = λ w. IsIrreducible (OneOf rules) w in
    let R : List ℕ → Type 0 = λ w. NoneEnds rules w in
    let front_good : IsIrreducible (OneOf rules) (tail ++ front) = subst P (take_at front (x ∷ []) (count - 1) fits) irreducible in
    let whole : (tail ++ front) ++ x ∷ [] ≡ tail ++ (front ++ x ∷ []) = append_assoc tail front (x ∷ []) in
    subst Q whole (irreducible_more rules (tail ++ front) x front_good (subst R (sym whole) none))

-- in an irreducible word no left side ends
pub none_in_irreducible : (rules : List Pair) (w : List ℕ) → IsIrreducible (OneOf rules) w → (v : List ℕ) → EndsWith w v → NoneEnds rules v
none_in_irreducible rules w irreducible v ends pair one inner =
    let deep = ends_within w v pair.0 ends inner in
    irreducible deep.0 pair [] one (deep.1 ∙ sym (append-nil (deep.0 ++ pair.0)))

-- a letter leads from the state of a word to that of the word with the letter
pub record StepsBack (words : List (List ℕ)) (state letter next : ℕ) : Type 0 where
  pub step : IsStep words state letter next
  pub upto : length (word words next) ≤ length (word words state) + 1

step_back : (words : List (List ℕ)) → AreWords words → (w : List ℕ) (x state next : ℕ) → 0 < next → StandsFor words w state
    → StandsFor words (w ++ x ∷ []) next → StepsBack words state x next
step_back words are w x state next some stands there =
    let from : EndsBy words w x next = ends_by words are w x next there.within some there.longest.ends in
    let parent : ℕ = from.parent in
    let inner : EndsWith (word words state) (word words parent) = stands.longest.longest parent from.within from.ends in
    let fits : length (word words parent) ≤ length (word words state) = ends_length (word words state) (word words parent) inner in
    let E : List ℕ → Type 0 = λ v. EndsWith (word words state ++ x ∷ []) v in
    let spelled : word words next ≡ word words parent ++ x ∷ [] = from.spelled in
    record {
      step = record {
        within = there.within;
        longest = record {
          ends = subst E (sym spelled) (ends_push (word words state) (word words parent) x inner);
          longest = λ other in_words ends.
              there.longest.longest other in_words
              (ends_within (w ++ x ∷ []) (word words state ++ x ∷ []) (word words other)
              (ends_push w (word words state) x stands.longest.ends) ends);
        };
      };
      upto = omega (arith, ap length from.spelled, length_push (word words parent) x);
    }

-- without some of the last letters
irreducible_part : (rules : List Pair) (tail way : List ℕ) (count : ℕ) → IsIrreducible (OneOf rules) (tail ++ way)
    → IsIrreducible (OneOf rules) (tail ++ take count way)
irreducible_part rules tail way count good =
    let P : List ℕ → Type 0 = λ v. IsIrreducible (OneOf rules) v in
    let whole : tail ++ way ≡ (tail ++ take count way) ++ drop count way =
    ap (λ (v : List ℕ). tail ++ v) (sym (take-append-drop count way)) ∙ sym (append_assoc tail (take count way) (drop count way)) in
    irreducible_front rules (tail ++ take count way) (drop count way) (subst P whole good)

-- the state of the way without its last letter
pub record IsBefore (rules : List Pair) (words : List (List ℕ)) (tail : List ℕ) (count next : ℕ) : Type 0 where
  pub state : ℕ
  pub reached : IsReached rules words tail count state
  pub goes : GoesOn rules words state (count + 1) next

module _ {rules : List Pair} {words : List (List ℕ)} (known : AreWordsOf rules words) where
  -- a letter more on a way at whose state no left side ends
  pub reached_more : (tail : List ℕ) (count state next : ℕ) → IsReached rules words tail count state
      → GoesOn rules words state (count + 1) next → IsReached rules words tail (count + 1) next
  reached_more tail count state next reached goes =
      let way : List ℕ = reached.way in
      let x : ℕ = goes.leads.letter in
      let none : NoneEnds rules (tail ++ way) = none_of_state known (tail ++ way) state reached.stands goes.open_there in
      let good : IsIrreducible (OneOf rules) (tail ++ way) =
      irreducible_there rules tail way count reached.count_is (from_end way) reached.irreducible none in
      let back : (count + 1) - 1 ≡ count = omega arith in
      let front : take ((count + 1) - 1) (way ++ x ∷ []) ≡ way =
      ap (λ (k : ℕ). take k (way ++ x ∷ [])) back ∙ take_at way (x ∷ []) count reached.count_is in
      let P : List ℕ → Type 0 = λ w. IsIrreducible (OneOf rules) (tail ++ w) in
      let Q : List ℕ → Type 0 = λ w. StandsFor words w next in
      record {
        way = way ++ x ∷ [];
        count_is = length_push way x ∙ ap (λ (k : ℕ). k + 1) reached.count_is;
        irreducible = subst P (sym front) good;
        stands =
            subst Q (append_assoc tail way (x ∷ []))
            (stands_step known (tail ++ way) x state next reached.stands goes.leads.step);
        longer = goes.leads.longer;
      }

  pub reached_before : (tail : List ℕ) (count next : ℕ) → IsReached rules words tail (count + 1) next
      → IsBefore rules words tail count next
  reached_before tail count next reached =
      let longer = longer_of reached.way count reached.count_is (from_end reached.way) in
      let way : List ℕ = longer.front in
      let x : ℕ = longer.letter in
      let w : List ℕ = tail ++ way in
      let whole : tail ++ reached.way ≡ w ++ x ∷ [] =
      ap (λ (v : List ℕ). tail ++ v) longer.is ∙ sym (append_assoc tail way (x ∷ [])) in
      let back : (count + 1) - 1 ≡ count = omega arith in
      let front : take ((count + 1) - 1) reached.way ≡ way =
      ap (λ (k : ℕ). take k reached.way) back ∙ ap (take count) longer.is ∙ take_at way (x ∷ []) count longer.count_is in
      let P : List ℕ → Type 0 = λ v. IsIrreducible (OneOf rules) (tail ++ v) in
      let good : P way = subst P front reached.irreducible in
      let S : List ℕ → Type 0 = λ v. StandsFor words v next in
      let stand : IsStanding words w = standing words known.are w in
      let some : 0 < next = longer_some known next (count + 1) reached.longer in
      let step = step_back words known.are w x stand.state next some stand.stands (subst S whole reached.stands) in
      let far : count + 1 < length (word words next) = reached.longer in
      record {
        state = stand.state;
        reached = record {
          way = way;
          count_is = longer.count_is;
          irreducible = irreducible_part rules tail way (count - 1) good;
          stands = stand.stands;
          longer = omega (arith, step.upto);
        };
        goes = record {
          open_there = none_in_irreducible rules w good (word words stand.state) stand.stands.longest.ends;
          leads = record { letter = x; step = step.step; longer = far };
        };
      }

  -- the first level, after no letter
  pub reached_none : (tail : List ℕ) (state : ℕ) → StandsFor words tail state → length (word words state) ≤ 0
      → AreReached rules words tail 0 []
  reached_none tail state stands short =
      record {
        each = λ other among. absurd (let no : ⊥ = omega (arith, among.1) in no);
        all = λ other reached.
            let nil : reached.way ≡ [] = nil_from_length reached.way reached.count_is in
            let P : List ℕ → Type 0 = λ w. StandsFor words w other in
            let there : StandsFor words tail other = subst P (ap (λ (w : List ℕ). tail ++ w) nil ∙ append-nil tail) reached.stands in
            let same : other ≡ state = one_stands words known.are tail other state there stands in
            let longer : 0 < length (word words other) = reached.longer in
            let long : length (word words other) ≡ length (word words state) = ap (λ (s : ℕ). length (word words s)) same in
            absurd (let no : ⊥ = omega arith in no);
      }

  pub reached_first : (tail : List ℕ) (state : ℕ) → StandsFor words tail state → IsIrreducible (OneOf rules) tail
      → 0 < length (word words state) → AreReached rules words tail 0 (state ∷ [])
  reached_first tail state stands good longer =
      let nil : tail ≡ tail ++ [] = sym (append-nil tail) in
      let P : List ℕ → Type 0 = λ w. StandsFor words w state in
      let Q : List ℕ → Type 0 = λ w. IsIrreducible (OneOf rules) w in
      let R : ℕ → Type 0 = λ s. IsReached rules words tail 0 s in
      let here : R state = record {
        way = [];
        count_is = refl;
        irreducible = subst Q nil good;
        stands = subst P nil stands;
        longer = longer;
      } in
      record {
        each = λ other among. subst R (only_one state other among) here;
        all = λ other reached.
            let none : reached.way ≡ [] = nil_from_length reached.way reached.count_is in
            let S : List ℕ → Type 0 = λ w. StandsFor words w other in
            let there : StandsFor words tail other = subst S (ap (λ (w : List ℕ). tail ++ w) none ∙ append-nil tail) reached.stands in
            let same : state ≡ other = one_stands words known.are tail state other stands there in
            (0, omega arith, same);
      }

  -- the next level
  pub reached_level : (tail : List ℕ) (count : ℕ) (level next : List ℕ) → AreReached rules words tail count level
      → Gains (Over (λ state. GoesOn rules words state (count + 1)) level) [] next
      → AreReached rules words tail (count + 1) next
  reached_level tail count level next are gains =
      record {
        each = λ state among.
            elim (gains.only state among) [
              | inl nowhere ↦ absurd (let no : ⊥ = omega (arith, nowhere.1) in no)
              | inr over ↦ reached_more tail count over.state state (are.each over.state over.among) over.is
            ];
        all = λ state reached.
            let before = reached_before tail count state reached in
            gains.gained state (record { state = before.state; among = are.all before.state before.reached; is = before.goes });
      }

  -- where one level is empty, so are the later ones
  pub reached_earlier : (tail : List ℕ) (count more state : ℕ) → IsReached rules words tail (count + more) state
      → (earlier : ℕ) × IsReached rules words tail count earlier
  reached_earlier tail count zero state reached =
      let P : ℕ → Type 0 = λ k. IsReached rules words tail k state in
      (state, subst P (omega arith) reached)
  reached_earlier tail count (suc more) state reached =
      let P : ℕ → Type 0 = λ k. IsReached rules words tail k state in
      let same : count + suc more ≡ (count + more) + 1 = omega arith in
      let before = reached_before tail (count + more) state (subst P same reached) in
      reached_earlier tail count more before.state before.reached
