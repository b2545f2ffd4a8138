-- The moves of pairs of states, and what they say of words.
use Rattle.std.proofs.Common.{◌≡◌, ◌≢◌, ℕ, suc, ◌+◌, ◌<◌, ◌≤◌, max, List, [], ◌∷◌, ◌++◌, length, get_or, take, Contains, Some, None, refl, sym, ap, ap₂, ◌∙◌, subst, inl, inr, arith}
use Rattle.std.specs.List.{flat_map}
use Rattle.std.proofs.lemmas.Bool.{cases_eq, eq-eqb, ne_eqb}
use Rattle.std.proofs.lemmas.List.{length-take, length_push}
use Rattle.std.proofs.lemmas.List.Elements.{All-take, Contains-append_cases, Contains-append_left, Contains-append_right}
use Rattle.std.proofs.lemmas.Option.{none-some, same_Some}
use Rattle.kb_word.specs.Relations.{IsOver}
use Rattle.kb_fsa.specs.Table.{Table, state_after, after}
use Rattle.kb_fsa.specs.PairSymbols.{pair_symbol, first_letter, second_letter}
use Rattle.kb_fsa.specs.Padding.{padded, IsPadded, IsTextOfPair}
use Rattle.kb_fsa.specs.Language.{Automaton, generators}
use Rattle.kb_fsa.proofs.PairSymbolLaws.{IsLetter, first_letter-pair_symbol, second_letter-pair_symbol, pair_symbol-injective, pair_symbol-letters, second_letter_within}
use Rattle.kb_fsa.proofs.Paddings.{length-padded, padded-injective, letter_or_padding}
use Rattle.kb_fsadet.proofs.Sets.{Contains-none, Contains-here, Contains-there, Contains-cons_cases}
use Rattle.kb_fsadet.proofs.FirstWordLemmas.{Contains-filter_map, filter_map_contains}
use Rattle.kb_compose.specs.Composition.{IsAfterPadded, IsPairAfter}
use Rattle.kb_compose.specs.StatePairs.{number_of, first_state, second_state, staying_moves, joined, joined_moves, pair_moves}
use Rattle.kb_compose.proofs.Texts.{IsLetterOrPadding, longer_by, padded_last, goes_on, same_push, after_push}
use Rattle.kb_compose.proofs.Stepping.{IsPairTable, IsStayOrStep, steps, stays, from_staying, to_staying, staying_symbol, before_padded, after_padded}

-- ---- lists of lists

pub Contains-flat_map : {X Y : Type 0} (f : X → List Y) (xs : List X) (y : Y) → Contains (flat_map f xs) y
    → (x : X) × (Contains xs x × Contains (f x) y)
Contains-flat_map f [] y at = absurd (Contains-none y at)
Contains-flat_map f (x ∷ xs) y at =
    elim (Contains-append_cases (f x) (flat_map f xs) y at) [
      | inl here ↦ (x, (Contains-here x xs, here))
      | inr there ↦ let later = Contains-flat_map f xs y there in (later.0, (Contains-there x xs later.0 later.1.0, later.1.1))
    ]

pub flat_map_contains : {X Y : Type 0} (f : X → List Y) (xs : List X) (x : X) (y : Y) → Contains xs x → Contains (f x) y
    → Contains (flat_map f xs) y
flat_map_contains f [] x y at there = absurd (Contains-none x at)
flat_map_contains {X} {Y} f (z ∷ xs) x y at there =
    elim (Contains-cons_cases z xs x at) [
      | inl is ↦
          let P : X → Type 0 = λ w. Contains (f w) y in
          Contains-append_left (f z) (flat_map f xs) y (subst P (sym is) there)
      | inr later ↦ Contains-append_right (f z) (flat_map f xs) y (flat_map_contains f xs x y later there)
    ]

-- ---- a move of each automaton

pub joined_same : (n : ℕ) (move other : ℕ × ℕ) → second_letter n move.0 ≡ first_letter n other.0
    → joined n move other ≡ Some (pair_symbol n (first_letter n move.0) (second_letter n other.0), number_of move.1 other.1)
joined_same n move other same = rw (eq-eqb (second_letter n move.0) (first_letter n other.0) same) refl

pub joined_apart : (n : ℕ) (move other : ℕ × ℕ) → second_letter n move.0 ≢ first_letter n other.0 → joined n move other ≡ None
joined_apart n move other differ = rw (ne_eqb (second_letter n move.0) (first_letter n other.0) differ) refl

-- the pair of states p and q has a move by the symbol: with a middle letter, or padding, both automata go on
pub record IsJoin (n : ℕ) (first second : Table) (p q symbol p' q' : ℕ) : Type 0 where
  pub middle : ℕ
  pub letter : IsLetterOrPadding n middle
  pub in_first : IsStayOrStep n first p (pair_symbol n (first_letter n symbol) middle) p'
  pub in_second : IsStayOrStep n second q (pair_symbol n middle (second_letter n symbol)) q'

-- what a move of a pair leads to
pub record IsJoinTo (n : ℕ) (first second : Table) (p q symbol target : ℕ) : Type 0 where
  pub p' : ℕ
  pub q' : ℕ
  pub target_is : target ≡ number_of p' q'
  pub join : IsJoin n first second p q symbol p' q'

module _ (n : ℕ) (first second : Table) (one : IsPairTable n first) (two : IsPairTable n second) where
  pub join_of_moves : (pair symbol target : ℕ) → Contains (pair_moves n first second pair) (symbol, target)
      → IsJoinTo n first second (first_state pair) (second_state pair) symbol target
  join_of_moves pair symbol target at =
      let p = first_state pair in
      let q = second_state pair in
      let outer = Contains-flat_map (joined_moves n second q) (staying_moves n first p) (symbol, target) at in
      let move = outer.0 in
      let inner = Contains-filter_map (joined n move) (staying_moves n second q) (symbol, target) outer.1.1 in
      let other = inner.0 in
      by move other outer.1.0 inner.1.0 inner.1.1
    where
      by : (move other : ℕ × ℕ) → Contains (staying_moves n first (first_state pair)) move
          → Contains (staying_moves n second (second_state pair)) other → joined n move other ≡ Some (symbol, target)
          → IsJoinTo n first second (first_state pair) (second_state pair) symbol target
      by move other here there is =
          elim (cases_eq (second_letter n move.0) (first_letter n other.0)) [
            | inr differ ↦ absurd (none-some (symbol, target) (sym (joined_apart n move other differ) ∙ is))
            | inl same ↦
                let a = first_letter n move.0 in
                let b = second_letter n other.0 in
                let c = second_letter n move.0 in
                let both : (pair_symbol n a b, number_of move.1 other.1) ≡ (symbol, target) =
                same_Some _ _ (sym (joined_same n move other same) ∙ is) in
                let symbol_is : pair_symbol n a b ≡ symbol = ap (λ (m : ℕ × ℕ). m.0) both in
                let within = second_letter_within n other.0 in
                let middle = second_letter_within n move.0 in
                let first_is : a ≡ first_letter n symbol =
                sym (first_letter-pair_symbol n a b (omega arith) within) ∙ ap (first_letter n) symbol_is in
                let second_is : b ≡ second_letter n symbol =
                sym (second_letter-pair_symbol n a b within) ∙ ap (second_letter n) symbol_is in
                let move_is : move.0 ≡ pair_symbol n (first_letter n symbol) c =
                sym (pair_symbol-letters n move.0 (staying_symbol n first one (first_state pair) move.0 move.1 here).0)
                ∙ ap (λ i. pair_symbol n i c) first_is in
                let other_is : other.0 ≡ pair_symbol n c (second_letter n symbol) =
                sym (pair_symbol-letters n other.0 (staying_symbol n second two (second_state pair) other.0 other.1 there).0)
                ∙ ap₂ (pair_symbol n) (sym same) second_is in
                let P : ℕ → Type 0 = λ s. IsStayOrStep n first (first_state pair) s move.1 in
                let Q : ℕ → Type 0 = λ s. IsStayOrStep n second (second_state pair) s other.1 in
                record {
                  p' = move.1;
                  q' = other.1;
                  target_is = sym (ap (λ (m : ℕ × ℕ). m.1) both);
                  join = record {
                    middle = c;
                    letter = middle;
                    in_first = subst P move_is (from_staying n first one (first_state pair) move.0 move.1 here);
                    in_second = subst Q other_is (from_staying n second two (second_state pair) other.0 other.1 there);
                  };
                }
          ]

  pub moves_of_join : (pair symbol p' q' : ℕ) → 0 < symbol → IsJoin n first second (first_state pair) (second_state pair) symbol p' q'
      → Contains (pair_moves n first second pair) (symbol, number_of p' q')
  moves_of_join pair symbol p' q' some join =
      let p = first_state pair in
      let q = second_state pair in
      let a = first_letter n symbol in
      let b = second_letter n symbol in
      let c = join.middle in
      let letter = join.letter in
      let within = second_letter_within n symbol in
      let move : ℕ × ℕ = (pair_symbol n a c, p') in
      let other : ℕ × ℕ = (pair_symbol n c b, q') in
      let here = to_staying n first one p (pair_symbol n a c) p' join.in_first in
      let there = to_staying n second two q (pair_symbol n c b) q' join.in_second in
      let middle : second_letter n (pair_symbol n a c) ≡ first_letter n (pair_symbol n c b) =
      second_letter-pair_symbol n a c letter ∙ sym (first_letter-pair_symbol n c b letter.0 within) in
      let outer : pair_symbol n (first_letter n (pair_symbol n a c)) (second_letter n (pair_symbol n c b)) ≡ symbol =
      ap₂ (pair_symbol n) (first_letter-pair_symbol n a c (omega arith) letter) (second_letter-pair_symbol n c b within)
      ∙ pair_symbol-letters n symbol some in
      let made : joined n move other ≡ Some (symbol, number_of p' q') =
      joined_same n move other middle ∙ ap (λ s. Some (s, number_of p' q')) outer in
      flat_map_contains (joined_moves n second q) (staying_moves n first p) move (symbol, number_of p' q') here
      (filter_map_contains (joined n move) (staying_moves n second q) other (symbol, number_of p' q') there made)

-- ---- pairs of words

module _ (first second : Automaton) (one : IsPairTable (generators first.alphabet) first.table)
    (two : IsPairTable (generators first.alphabet) second.table) where
  abbrev n : ℕ
  n = generators first.alphabet

  abbrev Letter : ℕ → Type 0
  Letter x = (0 < x) × (x ≤ generators first.alphabet)

  -- the pair of states before a move, with the move
  pub record IsBeforeJoin (text : List ℕ) (symbol p' q' : ℕ) : Type 0 where
    pub p : ℕ
    pub q : ℕ
    pub before : IsPairAfter first second text (p, q)
    pub join : IsJoin n first.table second.table p q symbol p' q'

  -- what a padded text with a symbol more is made of
  pub record IsPairText (text : List ℕ) (symbol : ℕ) (u v : List ℕ) : Type 0 where
    pub first_over : IsOver n u
    pub second_over : IsOver n v
    pub long : max (length u) (length v) ≡ suc (length text)
    pub front : text ≡ padded n (take (length text) u) (take (length text) v)
    pub a_is : first_letter n symbol ≡ get_or u (length text) (n + 1)
    pub b_is : second_letter n symbol ≡ get_or v (length text) (n + 1)

  pair_text : (text : List ℕ) (symbol : ℕ) (u v : List ℕ) → IsTextOfPair n (text ++ symbol ∷ []) u v → IsPairText text symbol u v
  pair_text text symbol u v is =
      let k = length text in
      let long : max (length u) (length v) ≡ suc k =
      omega (arith, length-padded n u v, ap length is.is_text, length_push text symbol) in
      let a = get_or u k (n + 1) in
      let b = get_or v k (n + 1) in
      let parts = same_push text (padded n (take k u) (take k v)) symbol (pair_symbol n a b) (is.is_text ∙ padded_last n k u v long) in
      let some = letter_or_padding n u k is.first_over in
      let other = letter_or_padding n v k is.second_over in
      record {
        first_over = is.first_over;
        second_over = is.second_over;
        long = long;
        front = parts.0;
        a_is = ap (first_letter n) parts.1 ∙ first_letter-pair_symbol n a b some.0 other;
        b_is = ap (second_letter n) parts.1 ∙ second_letter-pair_symbol n a b other;
      }

  pub pairs_before : (text : List ℕ) (symbol p' q' : ℕ) → IsPairAfter first second (text ++ symbol ∷ []) (p', q')
      → IsBeforeJoin text symbol p' q'
  pairs_before text symbol p' q' after =
      let k = length text in
      let more = length_push text symbol in
      let parts = pair_text text symbol after.u after.v after.is_text in
      let count : length (text ++ symbol ∷ []) ≡ suc k = omega arith in
      let short : length after.middle ≤ suc k = omega (arith, after.no_longer) in
      let whole = parts.long in
      let P : ℕ → Type 0 = λ m. IsAfterPadded n first.table after.u after.middle m p' in
      let Q : ℕ → Type 0 = λ m. IsAfterPadded n second.table after.middle after.v m q' in
      let in_first = before_padded n first.table one k after.u after.middle parts.first_over after.over (omega arith) short p'
      (subst P count after.in_first) in
      let in_second = before_padded n second.table two k after.middle after.v after.over parts.second_over short (omega arith) q'
      (subst Q count after.in_second) in
      let c = get_or after.middle k (n + 1) in
      let S : ℕ → Type 0 = λ i. IsStayOrStep n first.table in_first.0 (pair_symbol n i c) p' in
      let T : ℕ → Type 0 = λ j. IsStayOrStep n second.table in_second.0 (pair_symbol n c j) q' in
      record {
        p = in_first.0;
        q = in_second.0;
        before = record {
          u = take k after.u;
          middle = take k after.middle;
          v = take k after.v;
          is_text = record {
            first_over = All-take Letter k after.u parts.first_over;
            second_over = All-take Letter k after.v parts.second_over;
            is_text = parts.front;
          };
          over = All-take Letter k after.middle after.over;
          no_longer = omega (arith, length-take k after.middle);
          in_first = in_first.1.0;
          in_second = in_second.1.0;
        };
        join = record {
          middle = c;
          letter = letter_or_padding n after.middle k after.over;
          in_first = subst S (sym parts.a_is) in_first.1.1;
          in_second = subst T (sym parts.b_is) in_second.1.1;
        };
      }

  -- where the automaton goes on by a letter of the middle word, the other word isn't longer
  middle_long_first : (x w : List ℕ) (a c p' : ℕ) → IsOver n x → IsOver n w → IsLetterOrPadding n a → IsLetter n c
      → IsStayOrStep n first.table (state_after first.table (padded n x w)) (pair_symbol n a c) p' → length x ≤ length w
  middle_long_first x w a c p' over_x over_w letter low (steps leads some) =
      let is = one.texts (padded n x w ++ pair_symbol n a c ∷ []) (λ none.
      let at : 0 ≡ p' = sym none ∙ after_push first.table first.table.initial (padded n x w) (pair_symbol n a c) ∙ leads in
      let no : ⊥ = omega arith in no) in
      (goes_on n x w a c over_x over_w letter (low.0, omega (arith, low.1)) is).0 low.1
  middle_long_first x w a c p' over_x over_w letter low (stays same still accepts) =
      let letters = pair_symbol-injective n a c (n + 1) (n + 1) letter.0 (omega arith) (low.0, omega (arith, low.1)) (omega arith, omega arith) same in
      absurd (omega (arith, letters.1, low.1))

  middle_long_second : (w y : List ℕ) (c b q' : ℕ) → IsOver n w → IsOver n y → IsLetter n c → IsLetterOrPadding n b
      → IsStayOrStep n second.table (state_after second.table (padded n w y)) (pair_symbol n c b) q' → length y ≤ length w
  middle_long_second w y c b q' over_w over_y low letter (steps leads some) =
      let is = two.texts (padded n w y ++ pair_symbol n c b ∷ []) (λ none.
      let at : 0 ≡ q' = sym none ∙ after_push second.table second.table.initial (padded n w y) (pair_symbol n c b) ∙ leads in
      let no : ⊥ = omega arith in no) in
      (goes_on n w y c b over_w over_y (low.0, omega (arith, low.1)) letter is).1 low.1
  middle_long_second w y c b q' over_w over_y low letter (stays same still accepts) =
      let letters = pair_symbol-injective n c b (n + 1) (n + 1) low.0 (omega arith) letter (omega arith, omega arith) same in
      absurd (omega (arith, letters.0, low.1))

  -- a middle letter comes only where the middle word has as many letters as the text
  pub middle_long : (text : List ℕ) (p q a b c p' q' : ℕ) → (after : IsPairAfter first second text (p, q)) → IsLetterOrPadding n a
      → IsLetterOrPadding n b → IsLetter n c → IsStayOrStep n first.table p (pair_symbol n a c) p'
      → IsStayOrStep n second.table q (pair_symbol n c b) q' → length after.middle ≡ length text
  middle_long text p q a b c p' q' after letter_a letter_b low go_first go_second =
      let P : ℕ → Type 0 = λ s. IsStayOrStep n first.table s (pair_symbol n a c) p' in
      let Q : ℕ → Type 0 = λ s. IsStayOrStep n second.table s (pair_symbol n c b) q' in
      let is = after.is_text in
      let beside = middle_long_first after.u after.middle a c p' is.first_over after.over letter_a low (subst P (sym after.in_first.leads) go_first) in
      let behind = middle_long_second after.middle after.v c b q' after.over is.second_over low letter_b (subst Q (sym after.in_second.leads) go_second) in
      let short = after.no_longer in
      omega (arith, length-padded n after.u after.v, ap length is.is_text)

  pub pairs_after : (text : List ℕ) (symbol p q p' q' : ℕ) → IsPadded n (text ++ symbol ∷ []) → IsPairAfter first second text (p, q)
      → IsJoin n first.table second.table p q symbol p' q' → IsPairAfter first second (text ++ symbol ∷ []) (p', q')
  pairs_after text symbol p q p' q' is before join =
      let k = length text in
      let u = is.first in
      let v = is.second in
      let pair : IsTextOfPair n (text ++ symbol ∷ []) u v =
      record { first_over = is.first_over; second_over = is.second_over; is_text = is.is_text } in
      let parts = pair_text text symbol u v pair in
      let whole = parts.long in
      let old = before.is_text in
      let words = padded-injective n before.u before.v (take k u) (take k v) old.first_over old.second_over
      (All-take Letter k u is.first_over) (All-take Letter k v is.second_over) (sym old.is_text ∙ parts.front) in
      let c = join.middle in
      let A = λ (x : ℕ). IsLetterOrPadding n x in
      let letter_a : IsLetterOrPadding n (first_letter n symbol) = subst A (sym parts.a_is) (letter_or_padding n u k is.first_over) in
      let letter_b : IsLetterOrPadding n (second_letter n symbol) = subst A (sym parts.b_is) (letter_or_padding n v k is.second_over) in
      let longer = longer_by n k before.middle c before.over before.no_longer join.letter (λ low.
      middle_long text p q (first_letter n symbol) (second_letter n symbol) c p' q' before letter_a letter_b
      (join.letter.0, low) join.in_first join.in_second) in
      let w = longer.0 in
      let ends = longer.1 in
      let B = λ (x : List ℕ). λ (y : List ℕ). IsAfterPadded n first.table x y k p in
      let C = λ (x : List ℕ). λ (y : List ℕ). IsAfterPadded n second.table x y k q in
      let in_first : IsAfterPadded n first.table (take k u) (take k w) k p =
      subst (λ (x : List ℕ). B x (take k w)) words.0 (subst (B before.u) (sym ends.front) before.in_first) in
      let in_second : IsAfterPadded n second.table (take k w) (take k v) k q =
      subst (λ (y : List ℕ). C (take k w) y) words.1 (subst (λ (x : List ℕ). C x before.v) (sym ends.front) before.in_second) in
      let move_first : IsStayOrStep n first.table p (pair_symbol n (get_or u k (n + 1)) (get_or w k (n + 1))) p' =
      subst (λ (s : ℕ). IsStayOrStep n first.table p s p') (ap₂ (pair_symbol n) parts.a_is (sym ends.last)) join.in_first in
      let move_second : IsStayOrStep n second.table q (pair_symbol n (get_or w k (n + 1)) (get_or v k (n + 1))) q' =
      subst (λ (s : ℕ). IsStayOrStep n second.table q s q') (ap₂ (pair_symbol n) (sym ends.last) parts.b_is) join.in_second in
      let count : suc k ≡ length (text ++ symbol ∷ []) = omega (arith, length_push text symbol) in
      let after_first = after_padded n first.table one k u w is.first_over ends.over (omega arith) ends.no_longer p p' in_first move_first in
      let after_second = after_padded n second.table two k w v ends.over is.second_over ends.no_longer (omega arith) q q' in_second move_second in
      record {
        u = u;
        middle = w;
        v = v;
        is_text = pair;
        over = ends.over;
        no_longer = omega (arith, ends.no_longer);
        in_first = subst (λ (m : ℕ). IsAfterPadded n first.table u w m p') count after_first;
        in_second = subst (λ (m : ℕ). IsAfterPadded n second.table w v m q') count after_second;
      }
