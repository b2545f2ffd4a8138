-- The tokens of lists of numbers, place by place.
use Rattle.std.proofs.Common.{◌≡◌, ℕ, suc, ◌≤◌, ◌<◌, ℤ, List, [], ◌∷◌, ◌++◌, length, map, Option, Some, None, refl, sym, ap, ◌∙◌, subst, arith, append_assoc, append-nil}
use Rattle.std.proofs.lemmas.List.{length-append}
use Rattle.kb_lexing.specs.Token.{Token, number, close_square, comma, open_square}
use Rattle.kb_record.specs.Tree.{Value, number_value, list_value}
use Rattle.kb_record.specs.Lists.{places_of, number_place, row_place, entry_place, entries_place}
use Rattle.kb_record.specs.Grammar.{place_tokens, more_places, IsValue, ArePlaces, IsPlaceList}
use Rattle.kb_record.specs.Nesting.{value_nesting, places_nesting}
use Rattle.kb_record.specs.Numbers.{tokens_at, SpellsList, IsListSpelled}
use Rattle.kb_record.specs.Reading.{Reading, read, unexpected, too_deep, first_number, read_list}
use Rattle.kb_record.proofs.Finds.{Finds}
use Rattle.kb_record.proofs.FoundValues.{list_found}

-- places, each with the comma behind it
abbrev pub with_commas : List (Option Value) → List Token
with_commas [] = []
with_commas (p ∷ ps) = tokens_at p ++ comma ∷ with_commas ps

with_commas-more : (ps : List (Option Value)) (p : Option Value) → with_commas (ps ++ p ∷ []) ≡ with_commas ps ++ (tokens_at p ++ comma ∷ [])
with_commas-more [] p = refl
with_commas-more (q ∷ qs) p = ap (λ ts. tokens_at q ++ comma ∷ ts) (with_commas-more qs p) ∙ sym (append_assoc (tokens_at q) (comma ∷ with_commas qs) (tokens_at p ++ comma ∷ []))

-- one place more, and the comma behind it
pub one_place_more : (ps : List (Option Value)) (p : Option Value) (tokens left after : List Token) → tokens ≡ with_commas ps ++ left → left ≡ tokens_at p ++ comma ∷ after → tokens ≡ with_commas (ps ++ p ∷ []) ++ after
one_place_more ps p tokens left after e f =
    e ∙ ap (λ ts. with_commas ps ++ ts) f
    ∙ sym (ap (λ ts. ts ++ after) (with_commas-more ps p) ∙ append_assoc (with_commas ps) (tokens_at p ++ comma ∷ []) after ∙ ap (λ ts. with_commas ps ++ ts) (append_assoc (tokens_at p) (comma ∷ []) after))

first_of : (p : Option Value) (ps : List (Option Value)) → place_tokens (places_of (p ∷ ps)) ≡ tokens_at p ++ more_places (places_of ps)
first_of None ps = refl
first_of (Some v) ps = refl

next_of : (p : Option Value) (ps : List (Option Value)) → more_places (places_of (p ∷ ps)) ≡ comma ∷ (tokens_at p ++ more_places (places_of ps))
next_of None ps = refl
next_of (Some v) ps = refl

more-last : (ps : List (Option Value)) (p : Option Value) → more_places (places_of (ps ++ p ∷ [])) ≡ comma ∷ (with_commas ps ++ tokens_at p)
more-last [] p = next_of p [] ∙ ap (λ ts. comma ∷ ts) (append-nil (tokens_at p))
more-last (q ∷ qs) p =
    next_of q (qs ++ p ∷ []) ∙ ap (λ ts. comma ∷ (tokens_at q ++ ts)) (more-last qs p)
    ∙ ap (λ ts. comma ∷ ts) (sym (append_assoc (tokens_at q) (comma ∷ with_commas qs) (tokens_at p)))

places-last : (ps : List (Option Value)) (p : Option Value) → place_tokens (places_of (ps ++ p ∷ [])) ≡ with_commas ps ++ tokens_at p
places-last [] p = first_of p [] ∙ append-nil (tokens_at p)
places-last (q ∷ qs) p = first_of q (qs ++ p ∷ []) ∙ ap (λ ts. tokens_at q ++ ts) (more-last qs p) ∙ sym (append_assoc (tokens_at q) (comma ∷ with_commas qs) (tokens_at p))

-- the last place, and the closing bracket behind it
pub last_place_spelled : (ps : List (Option Value)) (p : Option Value) (tokens left after : List Token) → tokens ≡ with_commas ps ++ left → left ≡ tokens_at p ++ close_square ∷ after → SpellsList (ps ++ p ∷ []) tokens after
last_place_spelled ps p tokens left after e f =
    e ∙ ap (λ ts. with_commas ps ++ ts) f ∙ sym (append_assoc (with_commas ps) (tokens_at p) (close_square ∷ after)) ∙ ap (λ ts. ts ++ close_square ∷ after) (sym (places-last ps p))

-- a list within brackets as a place
pub list_at : (ps : List (Option Value)) (tokens inside after : List Token) → tokens ≡ open_square ∷ inside → SpellsList ps inside after → tokens ≡ tokens_at (Some (list_value (places_of ps))) ++ after
list_at ps tokens inside after e f = e ∙ ap (λ ts. open_square ∷ ts) (f ∙ sym (append_assoc (place_tokens (places_of ps)) (close_square ∷ []) after))

-- behind what was passed fewer tokens are left
pub fewer_behind : (passed tokens left after : List Token) (token : Token) → tokens ≡ passed ++ left → left ≡ token ∷ after → length after < length tokens
fewer_behind passed tokens left after token e f = let n = ap length e ∙ length-append passed left in omega (arith, n, ap length f)

pub fewer_than_spelled : (ps : List (Option Value)) (tokens after : List Token) → SpellsList ps tokens after → length after ≤ length tokens
fewer_than_spelled ps tokens after e = let n = ap length e ∙ length-append (place_tokens (places_of ps)) (close_square ∷ after) in omega (arith, n)

-- the number that stands first, and the tokens behind it
pub number_first : (tokens rest : List Token) (z : ℤ) → first_number tokens ≡ Some (z, rest) → tokens ≡ number z ∷ rest
number_first (number y ∷ tokens) rest z e = let same : ◌≡◌ {A = ℤ × List Token} (y, tokens) (z, rest) = cc in ap (λ (p : ℤ × List Token). number p.0 ∷ p.1) same
number_first _ rest z e = cc

-- ---- the trees of such lists

module _ {A : Type 0} (f : A → Value) where
  form_of : (xs : List A) → IsPlaceList (places_of (map (λ x. Some (f x)) xs))
  form_of [] = tt
  form_of (x ∷ xs) = tt

  good_of : ((x : A) → IsValue (f x)) → (xs : List A) → ArePlaces (places_of (map (λ x. Some (f x)) xs))
  good_of good [] = tt
  good_of good (x ∷ xs) = (good x, good_of good xs)

  nesting_of : (k : ℕ) → ((x : A) → value_nesting (f x) ≤ k) → (xs : List A) → places_nesting (places_of (map (λ x. Some (f x)) xs)) ≤ k
  nesting_of k low [] = omega arith
  nesting_of k low (x ∷ xs) = let here = low x in let others = nesting_of k low xs in omega (arith, here, others)

  -- a list of what is good is good, and nests one deeper
  pub good_list : ((x : A) → IsValue (f x)) → (xs : List A) → IsValue (list_value (places_of (map (λ x. Some (f x)) xs)))
  good_list good xs = (form_of xs, good_of good xs)

  pub low_list : (k : ℕ) → ((x : A) → value_nesting (f x) ≤ k) → (xs : List A) → value_nesting (list_value (places_of (map (λ x. Some (f x)) xs))) ≤ suc k
  low_list k low xs = let inside = nesting_of k low xs in omega (arith, inside)

-- ---- what is read

-- a list that nests no deeper than it may is read as what it is
pub spelled_is_read : (value : Value) (tokens rest : List Token) (depth : ℕ) → IsListSpelled value tokens rest → 3 ≤ depth → read_list depth tokens ≡ read value rest
spelled_is_read value tokens rest depth h deep =
    let good : IsValue (list_value (places_of h.places)) = subst IsValue h.is h.good in
    let low : value_nesting (list_value (places_of h.places)) ≤ 3 = subst (λ v. value_nesting v ≤ 3) h.is h.shallow in
    ap (read_list depth) h.spelled ∙ found_is (list_value (places_of h.places)) rest depth (read_list depth (place_tokens (places_of h.places) ++ close_square ∷ rest)) low deep (list_found (places_of h.places) good depth rest)
    ∙ ap (λ v. read v rest) (sym h.is)
  where
    found_is : (v : Value) (rest : List Token) (depth : ℕ) (reading : Reading Value) → value_nesting v ≤ 3 → 3 ≤ depth → Finds depth (value_nesting v) v rest reading → reading ≡ read v rest
    found_is v rest depth (read w left) low deep found = ap (λ x. read x left) found.0 ∙ ap (read v) found.1
    found_is v rest depth (unexpected expected left) low deep found = absurd found
    found_is v rest depth (too_deep left) low deep found = absurd (omega (arith, low, deep, found))

-- ---- the three lists

low_number : (z : ℤ) → value_nesting (number_value z) ≤ 0
low_number z = omega arith

numbers_good : (numbers : List ℤ) → IsValue (list_value (places_of (map number_place numbers)))
numbers_good numbers = good_list number_value (λ z. tt) numbers

numbers_low : (numbers : List ℤ) → value_nesting (list_value (places_of (map number_place numbers))) ≤ 1
numbers_low numbers = low_list number_value 0 low_number numbers

abbrev entry_tree : ℤ × ℤ → Value
entry_tree pair = list_value (places_of (map number_place (pair.0 ∷ pair.1 ∷ [])))

pairs_good : (pairs : List (ℤ × ℤ)) → IsValue (list_value (places_of (map entry_place pairs)))
pairs_good pairs = good_list entry_tree (λ (pair : ℤ × ℤ). numbers_good (pair.0 ∷ pair.1 ∷ [])) pairs

pairs_low : (pairs : List (ℤ × ℤ)) → value_nesting (list_value (places_of (map entry_place pairs))) ≤ 2
pairs_low pairs = low_list entry_tree 1 (λ (pair : ℤ × ℤ). numbers_low (pair.0 ∷ pair.1 ∷ [])) pairs

pub numbers_spelled : (value : Value) (numbers : List ℤ) (tokens rest : List Token) → value ≡ list_value (places_of (map number_place numbers)) → SpellsList (map number_place numbers) tokens rest → IsListSpelled value tokens rest
numbers_spelled value numbers tokens rest is spelled =
    let low = numbers_low numbers in
    record {
      places = map number_place numbers;
      is = is;
      good = subst IsValue (sym is) (numbers_good numbers);
      shallow = subst (λ v. value_nesting v ≤ 3) (sym is) (omega (arith, low));
      spelled = spelled;
    }

pub rows_spelled : (value : Value) (rows : List (List ℤ)) (tokens rest : List Token) → value ≡ list_value (places_of (map row_place rows)) → SpellsList (map row_place rows) tokens rest → IsListSpelled value tokens rest
rows_spelled value rows tokens rest is spelled =
    let low = low_list (λ (row : List ℤ). list_value (places_of (map number_place row))) 1 numbers_low rows in
    record {
      places = map row_place rows;
      is = is;
      good = subst IsValue (sym is) (good_list (λ (row : List ℤ). list_value (places_of (map number_place row))) numbers_good rows);
      shallow = subst (λ v. value_nesting v ≤ 3) (sym is) (omega (arith, low));
      spelled = spelled;
    }

pub entries_spelled : (value : Value) (rows : List (List (ℤ × ℤ))) (tokens rest : List Token) → value ≡ list_value (places_of (map entries_place rows)) → SpellsList (map entries_place rows) tokens rest → IsListSpelled value tokens rest
entries_spelled value rows tokens rest is spelled =
    let low = low_list (λ (row : List (ℤ × ℤ)). list_value (places_of (map entry_place row))) 2 pairs_low rows in
    record {
      places = map entries_place rows;
      is = is;
      good = subst IsValue (sym is) (good_list (λ (row : List (ℤ × ℤ)). list_value (places_of (map entry_place row))) pairs_good rows);
      shallow = subst (λ v. value_nesting v ≤ 3) (sym is) (omega (arith, low));
      spelled = spelled;
    }
