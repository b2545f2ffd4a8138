-- The prime overlaps as left sides that end what is read.
use Rattle.std.proofs.Common.{◌≡◌, ◌≢◌, ℕ, zero, suc, ◌+◌, ◌-◌, ◌<◌, ◌≤◌, ◌⊎◌, List, [], ◌∷◌, ◌++◌, length, get_or, take, drop, refl, sym, ap, ◌∙◌, subst, inl, inr, arith, append_assoc, length-append, length-drop, length-take}
use Rattle.std.specs.Prelude.{slice_get, Some}
use Rattle.std.specs.List.{Contains}
use Rattle.std.specs.List.Sorted.{IsPermutation}
use Rattle.std.proofs.lemmas.Bool.{cases_lt}
use Rattle.std.proofs.lemmas.List.{append-nil, length_push, nil_from_length, same_from_push, take-append-drop, take_at, drop_at, drop-drop}
use Rattle.std.proofs.lemmas.List.Elements.{All-weaker, All-contains_itself}
use Rattle.std.proofs.lemmas.List.Sorted.{All-permutation, Contains-permutation}
use Rattle.std.proofs.lemmas.Option.{slice_get-get_or, slice_get_within}
use Rattle.kb_word.specs.Words.{Pair, OneOf, EndsWith}
use Rattle.kb_word.specs.Rewriting.{IsIrreducible}
use Rattle.kb_word.specs.Overlap.{Overlaps, superposition}
use Rattle.kb_rules.specs.Agreement.{AgreeAsFar}
use Rattle.kb_rules.proofs.Lists.{FromEnd, from_end}
use Rattle.kb_rules.proofs.Lists.FromEnd.{empty, last}
use Rattle.kb_rules.proofs.Superposed.{overlap-agrees, slice_get-drop}
use Rattle.kb_trie.specs.States.{word}
use Rattle.kb_trie.proofs.Suffixes.{ends_all, ends_length, ends_within}
use Rattle.kb_index.specs.Automata.{HaveLefts}
use Rattle.kb_index.specs.Lefts.{left_at}
use Rattle.kb_overlap.specs.declared.left_sides.Overlap.{Overlap}
use Rattle.kb_overlap.specs.Composite.{ArePrimeOverlaps, BothStickOut, IsComposite, IsPrime, IsPrimeOverlap, StandsInside}
use Rattle.kb_overlap.specs.Composite.IsPrime.{contained, proper}
use Rattle.kb_overlap.specs.Prefixes.{AreWordsOf}
use Rattle.kb_overlap.specs.Ways.{EndsPrefix, Gains, IsContained, IsMet, IsProper}
use Rattle.kb_overlap.proofs.Suffixed.{no_rule, left_of, left_to_state, ends_some, have_lefts}
use Rattle.kb_overlap.proofs.Reached.{standing, none_in_irreducible}

some_injective : {x y : ℕ} → Some x ≡ Some y → x ≡ y
some_injective e = cc

-- of lists that agree as far as both go, the shorter begins the other
agree_longer : (xs ys : List ℕ) → AgreeAsFar xs ys → length xs ≤ length ys → ys ≡ xs ++ drop (length xs) ys
agree_longer [] ys agree fits = refl
agree_longer (x ∷ xs) [] agree fits = absurd (let no : ⊥ = omega arith in no)
agree_longer (x ∷ xs) (y ∷ ys) agree fits =
    let same : x ≡ y = some_injective (agree 0 (omega arith) (omega arith)) in
    let rest : ys ≡ xs ++ drop (length xs) ys =
    agree_longer xs ys (λ k low high. agree (suc k) (omega arith) (omega arith)) (omega arith) in
    cc

agree_back : (xs ys : List ℕ) → AgreeAsFar xs ys → AgreeAsFar ys xs
agree_back xs ys agree k low high = sym (agree k high low)

get_front : (xs ys : List ℕ) (k : ℕ) → k < length xs → slice_get (xs ++ ys) k ≡ slice_get xs k
get_front [] ys k within = absurd (let no : ⊥ = omega arith in no)
get_front (x ∷ xs) ys zero within = refl
get_front (x ∷ xs) ys (suc k) within = get_front xs ys k (omega arith)

-- where l, with letters after it, has m from a place on, both overlap there
overlap_from : (l m before after rest : List ℕ) → l ++ after ≡ before ++ m ++ rest → length before < length l → Overlaps l m (length before)
overlap_from l m before after rest whole within = record {
  within = within;
  agree = λ k low high.
      let place : ℕ = length before in
      let seam : drop place (before ++ (m ++ rest)) ≡ m ++ rest = drop_at before (m ++ rest) place refl in
      sym (get_front l after (place + k) low) ∙ ap (λ (w : List ℕ). slice_get w (place + k)) (whole ∙ append_assoc before m rest)
      ∙ sym (slice_get-drop place (before ++ (m ++ rest)) k) ∙ ap (λ (w : List ℕ). slice_get w k) seam ∙ get_front m rest k high;
}

-- the rules of an overlap, from the index of the second
pub left_some : (rules : List Pair) → HaveLefts rules → (index : ℕ) → index < length rules → 0 < length (left_at rules index)
left_some rules lefts index within =
    elim (cases_lt 0 (length (left_at rules index))) [
      | inl some ↦ some
      | inr none ↦ absurd (lefts index within (nil_from_length (left_at rules index) (omega arith)))
    ]

rule_at : (rules : List Pair) (index : ℕ) → index < length rules → slice_get rules index ≡ Some (get_or rules index no_rule)
rule_at rules index within = slice_get-get_or rules index no_rule within

-- contained left sides are those that end a prefix
pub contained_of : (rules : List Pair) → HaveLefts rules → (index : ℕ) → index < length rules → (one : Overlap)
    → EndsPrefix rules index (left_at rules index) (length (left_at rules index)) one → IsContained rules index one
contained_of rules lefts index within one ends =
    let l : List ℕ = left_at rules index in
    let m : List ℕ = left_at rules one.rule in
    let read : ℕ = ends.read in
    let upto : read ≤ length l = ends.within in
    let before : List ℕ = ends.ends.ends.0 in
    let front : take read l ≡ before ++ m = ends.ends.ends.1 in
    let whole : l ++ [] ≡ before ++ m ++ drop read l =
    append-nil l ∙ sym (take-append-drop read l) ∙ ap (λ (w : List ℕ). w ++ drop read l) front in
    let sum : one.place + length m ≡ read = ends.ends.upto in
    let place : length before ≡ one.place = omega (arith, ap length front, length-take read l, length-append before m) in
    let some : 0 < length m = ends.ends.longer in
    let P : ℕ → Type 0 = λ p. Overlaps l m p in
    record {
      first = get_or rules index no_rule;
      second = get_or rules one.rule no_rule;
      overlap = record {
        is_first = rule_at rules index within;
        is_second = rule_at rules one.rule ends.ends.within;
        overlaps = subst P place (overlap_from l m before [] (drop read l) whole (omega arith));
        proper = λ same. ends.ends.other (sym same);
      };
      within = omega arith;
    }

pub ends_prefix : (rules : List Pair) → HaveLefts rules → (index : ℕ) (one : Overlap) → IsContained rules index one
    → EndsPrefix rules index (left_at rules index) (length (left_at rules index)) one
ends_prefix rules lefts index one is =
    let l : List ℕ = is.first.0 in
    let m : List ℕ = is.second.0 in
    let place : ℕ = one.place in
    let fits : place + length m ≤ length l = is.within in
    let in_l : place < length l = is.overlap.overlaps.within in
    let rest : List ℕ = drop (length m) (drop place l) in
    let inner : drop place l ≡ m ++ rest =
    agree_longer m (drop place l) (agree_back (drop place l) m (overlap-agrees l m place is.overlap.overlaps)) (omega (arith, length-drop place l)) in
    let whole : l ≡ (take place l ++ m) ++ rest =
    sym (take-append-drop place l) ∙ ap (λ (w : List ℕ). take place l ++ w) inner ∙ sym (append_assoc (take place l) m rest) in
    let long : length (take place l ++ m) ≡ place + length m = omega (arith, length-append (take place l) m, length-take place l) in
    let front : take (place + length m) l ≡ take place l ++ m =
    ap (take (place + length m)) whole ∙ take_at (take place l ++ m) rest (place + length m) long in
    let first_left : left_at rules index ≡ l = left_of rules index is.first is.overlap.is_first in
    let second_left : left_at rules one.rule ≡ m = left_of rules one.rule is.second is.overlap.is_second in
    let in_rules : one.rule < length rules = slice_get_within rules one.rule is.second is.overlap.is_second in
    let P : List ℕ → Type 0 = λ v. EndsPrefix rules index v (length v) one in
    let Q : List ℕ → Type 0 = λ v. EndsWith (take (place + length m) l) v in
    let long_second : length (left_at rules one.rule) ≡ length m = ap length second_left in
    let some : 0 < length (left_at rules one.rule) = left_some rules lefts one.rule in_rules in
    subst P (sym first_left) (record {
      read = place + length m;
      within = fits;
      ends = record {
        within = in_rules;
        ends = subst Q (sym second_left) (take place l, front);
        longer = some;
        upto = omega arith;
        other = λ same. is.overlap.proper (sym same);
      };
    })

-- a word that isn't empty
tail_of : (l : List ℕ) → 0 < length l → (x : ℕ) × (l ≡ x ∷ drop 1 l)
tail_of [] some = absurd (let no : ⊥ = omega arith in no)
tail_of (x ∷ l) some = (x, refl)

record IsPushed (way : List ℕ) : Type 0 where
  letter : ℕ
  is : way ≡ take (length way - 1) way ++ letter ∷ []

pushed : (way : List ℕ) → 0 < length way → FromEnd way → IsPushed way
pushed way some empty = absurd (let no : ⊥ = omega arith in no)
pushed way some (last front x) =
    let back : length front ≡ length (front ++ x ∷ []) - 1 = omega (arith, length_push front x) in
    record {
      letter = x;
      is = ap (λ (w : List ℕ). w ++ x ∷ []) (sym (take_at front (x ∷ []) (length (front ++ x ∷ []) - 1) back));
    }

-- what stands strictly inside a word stands in it without its first and last letter
inside_out : (x : ℕ) (w : List ℕ) (y : ℕ) (v : List ℕ) → StandsInside (x ∷ (w ++ y ∷ [])) v
    → (before : List ℕ) × (after : List ℕ) × (w ≡ before ++ v ++ after)
inside_out x w y v inside = by inside.before inside.after (from_end inside.after) inside.whole inside.begins_later inside.ends_earlier
  where
    by : (before after : List ℕ) → FromEnd after → x ∷ (w ++ y ∷ []) ≡ before ++ v ++ after → before ≢ [] → after ≢ []
        → (before : List ℕ) × (after : List ℕ) × (w ≡ before ++ v ++ after)
    by [] after end whole later earlier = absurd (later refl)
    by (z ∷ before) after empty whole later earlier = absurd (earlier refl)
    by (z ∷ before) after (last front q) whole later earlier =
        let rest : w ++ y ∷ [] ≡ before ++ v ++ (front ++ q ∷ []) = ap (drop 1) whole in
        let split = same_from_push w ((before ++ v) ++ front) y q (rest ∙ sym (append_assoc (before ++ v) front (q ∷ []))) in
        (before, front, split.0)

inside_in : (x : ℕ) (w : List ℕ) (y : ℕ) (before v after : List ℕ) → w ≡ before ++ v ++ after → StandsInside (x ∷ (w ++ y ∷ [])) v
inside_in x w y before v after whole = record {
  before = x ∷ before;
  after = after ++ y ∷ [];
  whole = ap (λ (u : List ℕ). x ∷ (u ++ y ∷ [])) whole ∙ ap (λ (u : List ℕ). x ∷ u) (append_assoc (before ++ v) after (y ∷ []));
  begins_later = λ none. absurd (let no : ⊥ = cc in no);
  ends_earlier = λ none. absurd (let no : ⊥ = omega (arith, ap length none, length_push after y) in no);
}

shape : (l : List ℕ) (x : ℕ) (tail way front : List ℕ) (y : ℕ) → l ≡ x ∷ tail → way ≡ front ++ y ∷ []
    → l ++ way ≡ x ∷ ((tail ++ front) ++ y ∷ [])
shape l x tail way front y is_l is_way =
    ap (λ (u : List ℕ). u ++ way) is_l ∙ ap (λ (u : List ℕ). x ∷ (tail ++ u)) is_way
    ∙ ap (λ (u : List ℕ). x ∷ u) (sym (append_assoc tail front (y ∷ [])))

-- where m ends l followed by a way, which is shorter than m, the superposition is l followed by the way
superposed : (l m before way : List ℕ) (place : ℕ) → l ++ way ≡ before ++ m → length before ≡ place → place < length l
    → superposition l m place ≡ l ++ way
superposed l m before way place whole long within =
    let rest : drop place (l ++ way) ≡ m = ap (drop place) whole ∙ drop_at before m place long in
    let sum : place + (length l - place) ≡ length l = omega arith in
    let past : drop (length l - place) m ≡ way =
    ap (drop (length l - place)) (sym rest) ∙ drop-drop (length l - place) place (l ++ way)
    ∙ ap (λ (k : ℕ). drop k (l ++ way)) sum ∙ drop_at l way (length l) refl in
    ap (λ (u : List ℕ). l ++ u) past

-- a composite overlap is one whose superposition has a left side inside
composite_of : (rules : List Pair) (l m : List ℕ) (place x : ℕ) (tail way front : List ℕ) (y : ℕ) → superposition l m place ≡ l ++ way
    → l ≡ x ∷ tail → way ≡ front ++ y ∷ [] → (before : List ℕ) (pair : Pair) (after : List ℕ) → OneOf rules pair
    → tail ++ front ≡ before ++ pair.0 ++ after → IsComposite rules l m place
composite_of rules l m place x tail way front y whole is_l is_way before pair after one stands =
    let S : List ℕ → Type 0 = λ w. StandsInside w pair.0 in
    record {
      inner = pair;
      is_rule = one;
      inside =
          subst S (sym (whole ∙ shape l x tail way front y is_l is_way)) (inside_in x (tail ++ front) y before pair.0 after stands);
    }

composite_inner : (rules : List Pair) (l m : List ℕ) (place x : ℕ) (tail way front : List ℕ) (y : ℕ) → superposition l m place ≡ l ++ way
    → l ≡ x ∷ tail → way ≡ front ++ y ∷ [] → IsComposite rules l m place → ¬ IsIrreducible (OneOf rules) (tail ++ front)
composite_inner rules l m place x tail way front y whole is_l is_way composite irreducible =
    let S : List ℕ → Type 0 = λ w. StandsInside w composite.inner.0 in
    let inside : S (x ∷ ((tail ++ front) ++ y ∷ [])) = subst S (whole ∙ shape l x tail way front y is_l is_way) composite.inside in
    let out = inside_out x (tail ++ front) y composite.inner.0 inside in
    irreducible out.0 composite.inner out.1 composite.is_rule out.2

-- no letter: what is irreducible before the last one is so
irreducible_none : (rules : List Pair) (tail way : List ℕ) (count : ℕ) → length way ≡ count → count ≡ 0
    → IsIrreducible (OneOf rules) (tail ++ take (count - 1) way) → IsIrreducible (OneOf rules) (tail ++ way)
irreducible_none rules tail [] count long none irreducible =
    let back : count - 1 ≡ 0 = omega arith in
    let P : ℕ → Type 0 = λ k. IsIrreducible (OneOf rules) (tail ++ take k []) in
    subst P back irreducible
irreducible_none rules tail (x ∷ way) count long none irreducible = absurd (let no : ⊥ = omega arith in no)

module _ {rules : List Pair} {words : List (List ℕ)} (known : AreWordsOf rules words) where
  -- what is met is a proper overlap
  pub proper_of : (index count : ℕ) (one : Overlap) → index < length rules → IsMet rules words index count one
      → IsProper rules index one
  proper_of index count one within met =
      let l : List ℕ = left_at rules index in
      let m : List ℕ = left_at rules one.rule in
      let tail : List ℕ = drop 1 l in
      let way : List ℕ = met.reached.way in
      let long : length way ≡ count = met.reached.count_is in
      let some : 0 < length l = left_some rules (have_lefts known) index within in
      let whole_l = tail_of l some in
      let x : ℕ = whole_l.0 in
      let is_l : l ≡ x ∷ tail = whole_l.1 in
      let ends : EndsWith (tail ++ way) m =
      ends_within (tail ++ way) (word words met.state) m met.reached.stands.longest.ends met.ends.ends in
      let before : List ℕ = ends.0 in
      let longer : count < length m = met.ends.longer in
      let upto : one.place + length m ≡ length l + count = met.ends.upto in
      let sizes : length (tail ++ way) ≡ length before + length m = ap length ends.1 ∙ length-append before m in
      let place : length (x ∷ before) ≡ one.place =
      omega (arith, length-append tail way, length-drop 1 l) in
      let whole : l ++ way ≡ (x ∷ before) ++ m =
      ap (λ (u : List ℕ). u ++ way) is_l ∙ ap (λ (u : List ℕ). x ∷ u) ends.1 in
      let in_l : one.place < length l = omega arith in
      let superposition_is : superposition l m one.place ≡ l ++ way = superposed l m (x ∷ before) way one.place whole place in_l in
      let positive : 0 < count =
      elim (cases_lt 0 count) [
        | inl positive ↦ positive
        | inr none ↦
            let zero_count : count ≡ 0 = omega arith in
            let good = irreducible_none rules tail way count long zero_count met.reached.irreducible in
            absurd (ends_some rules (tail ++ way) one.rule met.ends.within ends
            (none_in_irreducible rules (tail ++ way) good (tail ++ way) (ends_all (tail ++ way))))
      ] in
      let push = pushed way (omega arith) (from_end way) in
      let front : List ℕ = take (length way - 1) way in
      let y : ℕ = push.letter in
      let P : ℕ → Type 0 = λ p. Overlaps l m p in
      let closed : l ++ way ≡ (x ∷ before) ++ m ++ [] = whole ∙ sym (append-nil ((x ∷ before) ++ m)) in
      record {
        first = get_or rules index no_rule;
        second = get_or rules one.rule no_rule;
        overlap = record {
          is_first = rule_at rules index within;
          is_second = rule_at rules one.rule met.ends.within;
          overlaps = subst P place (overlap_from l m (x ∷ before) way [] closed (omega arith));
          proper = λ same. met.ends.other (sym same);
        };
        out = record {
          begins_later = omega arith;
          ends_later = omega arith;
        };
        prime =
            let Q : ℕ → Type 0 = λ k. IsIrreducible (OneOf rules) (tail ++ take (k - 1) way) in
            let good : Q (length way) = subst Q (sym long) met.reached.irreducible in
            λ composite. composite_inner rules l m one.place x tail way front y superposition_is is_l push.is composite good;
      }

  -- a proper overlap that isn't composite is met
  pub met_of : (index : ℕ) (one : Overlap) → IsProper rules index one
      → (count : ℕ) × IsMet rules words index count one
  met_of index one given =
      let l : List ℕ = left_at rules index in
      let m : List ℕ = left_at rules one.rule in
      let place : ℕ = one.place in
      let tail : List ℕ = drop 1 l in
      let first_left : given.first.0 ≡ l = sym (left_of rules index given.first given.overlap.is_first) in
      let second_left : given.second.0 ≡ m = sym (left_of rules one.rule given.second given.overlap.is_second) in
      let P : List ℕ → List ℕ → Type 0 = λ u v. Overlaps u v place in
      let C : List ℕ → List ℕ → Type 0 = λ u v. ¬ IsComposite rules u v place in
      let B : List ℕ → List ℕ → Type 0 = λ u v. BothStickOut u v place in
      let overlaps : P l m = subst (P l) second_left (subst (λ (u : List ℕ). P u given.second.0) first_left given.overlap.overlaps) in
      let prime : C l m = subst (C l) second_left (subst (λ (u : List ℕ). C u given.second.0) first_left given.prime) in
      let out : B l m = subst (B l) second_left (subst (λ (u : List ℕ). B u given.second.0) first_left given.out) in
      let in_l : place < length l = overlaps.within in
      let begins : 0 < place = out.begins_later in
      let past : length l < place + length m = out.ends_later in
      let whole_l = tail_of l (omega arith) in
      let x : ℕ = whole_l.0 in
      let is_l : l ≡ x ∷ tail = whole_l.1 in
      let way : List ℕ = drop (length l - place) m in
      let count : ℕ = length way in
      let long : count ≡ length m - (length l - place) = length-drop (length l - place) m in
      let shared : length (drop place l) ≡ length l - place = length-drop place l in
      let split_m : m ≡ drop place l ++ way =
      agree_longer (drop place l) m (overlap-agrees l m place overlaps) (omega arith)
      ∙ ap (λ (k : ℕ). drop place l ++ drop k m) shared in
      let back : 1 + (place - 1) ≡ place = omega arith in
      let rest : drop (place - 1) tail ≡ drop place l = drop-drop (place - 1) 1 l ∙ ap (λ (k : ℕ). drop k l) back in
      let split_tail : tail ≡ take (place - 1) tail ++ drop place l =
      sym (take-append-drop (place - 1) tail) ∙ ap (λ (u : List ℕ). take (place - 1) tail ++ u) rest in
      let whole : tail ++ way ≡ take (place - 1) tail ++ m =
      ap (λ (u : List ℕ). u ++ way) split_tail ∙ append_assoc (take (place - 1) tail) (drop place l) way
      ∙ ap (λ (u : List ℕ). take (place - 1) tail ++ u) (sym split_m) in
      let stand = standing words known.are (tail ++ way) in
      let in_rules : one.rule < length rules = slice_get_within rules one.rule given.second given.overlap.is_second in
      let inner : EndsWith (word words stand.state) m =
      left_to_state known (tail ++ way) stand.state one.rule stand.stands in_rules (take (place - 1) tail, whole) in
      let fits = ends_length (word words stand.state) m inner in
      let push = pushed way (omega arith) (from_end way) in
      let front : List ℕ = take (count - 1) way in
      let y : ℕ = push.letter in (
        count,
        record {
          state = stand.state;
          reached = record {
            way = way;
            count_is = refl;
            irreducible = λ before pair after one_of stands.
                prime (composite_of rules l m place x tail way front y refl is_l push.is before pair after one_of stands);
            stands = stand.stands;
            longer = omega arith;
          };
          ends = record {
            within = in_rules;
            ends = inner;
            longer = omega arith;
            upto = omega arith;
            other = λ same. begins;
          };
        },
      )

prime_cases : (rules : List Pair) (l m : List ℕ) (place : ℕ) → IsPrime rules l m place
    → (place + length m ≤ length l) ⊎ (BothStickOut l m place × (¬ IsComposite rules l m place))
prime_cases rules l m place (contained within) = inl within
prime_cases rules l m place (proper out prime) = inr (out, prime)

-- both kinds together are the prime overlaps
pub all_prime : (rules : List Pair) (index : ℕ) (none mid found : List Overlap) → none ≡ [] → Gains (IsContained rules index) none mid
    → Gains (IsProper rules index) mid found → ArePrimeOverlaps rules index found
all_prime rules index none mid found empty_first first second = record {
  each = All-weaker (Contains found) (IsPrimeOverlap rules index) (λ one there.
      elim (second.only one there) [
        | inl among ↦
            elim (first.only one among) [
              | inl before ↦
                  let P : List Overlap → Type 0 = λ xs. Contains xs one in
                  let nowhere : P [] = subst P empty_first before in
                  absurd (let no : ⊥ = omega (arith, nowhere.1) in no)
              | inr is ↦ record { first = is.first; second = is.second; overlap = is.overlap; prime = contained is.within }
            ]
        | inr is ↦ record { first = is.first; second = is.second; overlap = is.overlap; prime = proper is.out is.prime }
      ]) found (All-contains_itself found);
  all = λ one is.
      elim (prime_cases rules is.first.0 is.second.0 one.place is.prime) [
        | inl within ↦
            second.kept one
            (first.gained one (record { first = is.first; second = is.second; overlap = is.overlap; within = within }))
        | inr both ↦
            second.gained one
            (record { first = is.first; second = is.second; overlap = is.overlap; out = both.0; prime = both.1 })
      ];
}

-- in another order they are the same
pub sorted_primes : (rules : List Pair) (index : ℕ) (found sorted : List Overlap) → IsPermutation found sorted
    → ArePrimeOverlaps rules index found → ArePrimeOverlaps rules index sorted
sorted_primes rules index found sorted moved primes = record {
  each = All-permutation (IsPrimeOverlap rules index) found sorted moved primes.each;
  all = λ one prime. Contains-permutation found sorted one moved (primes.all one prime);
}
