-- Rows of tables as they are read.
use Rattle.std.proofs.Common.{◌≡◌, ◌≢◌, ℕ, zero, suc, ◌+◌, ◌<◌, ◌≤◌, Bool, true, false, not, nat_eq, cond, ℤ, pos, List, [], ◌∷◌, ◌++◌, length, map, take, get_or, slice_get, Option, Some, None, ◌⊎◌, inl, inr, refl, sym, ap, ◌∙◌, subst, arith}
use Rattle.std.specs.Option.{option_map, unwrap_or, is_some, IsSome}
use Rattle.std.specs.List.{All}
use Rattle.std.specs.List.Sorted.{IsStrictlySortedBy}
use Rattle.std.specs.Map.{keys_of}
use Rattle.std.specs.Map as std_map
use Rattle.std.specs.BTreeMap.{BTreeMap, get, is_at, Updates}
use Rattle.std.specs.Ordering.{nat_cmp, is_eq}
use Rattle.std.proofs.lemmas.Bool.{cases_eq}
use Rattle.std.proofs.lemmas.Bool.Decides.{nat_tests}
use Rattle.std.proofs.lemmas.Option.{slice_get-map, slice_get-get_or}
use Rattle.std.proofs.lemmas.List.{length-map, length-take, get_or-map, take_more, map-append}
use Rattle.std.proofs.lemmas.List.Elements.{All-nil, All-cons, All-push, All-weaker, All-contains, filter-append}
use Rattle.std.proofs.lemmas.List.Quantifiers.{all_pairs_push}
use Rattle.std.proofs.lemmas.Map.Keys.{below_from_sorted}
use Rattle.kb_fsa.specs.Table.{Moves, IsRow, Ascends, lookup, target}
use Rattle.kb_fsa.proofs.Lookups.{lookup_here, lookup_there, entry_from_lookup, lookup-push_same, lookup-push_other}
use Rattle.kb_fsafile.specs.Kinds.{numbered_from}
use Rattle.kb_fsafile.specs.RowsRead.{moves_among, AreRowTargets, AreEntries, HasEntries, AreAscendingEntries, IsSparseRow}
use Rattle.kb_fsafile.proofs.MoveLemmas.{target_among, row_among, numbered-append}

-- one more target
pub targets_more : (count : ℕ) (numbers : List ℤ) (k : ℕ) (z : ℤ) (moves new : List (ℕ × ℕ)) (symbol t : ℕ) → k < length numbers → z ≡ get_or numbers k z
    → AreRowTargets count (take k numbers) moves → symbol ≡ k + 1 → z ≡ pos t → t ≤ count → new ≡ moves ++ moves_among ((symbol, t) ∷ [])
    → AreRowTargets count (take (k + 1) numbers) new
targets_more count numbers k z moves new symbol t within at are next is small more = record {
  targets = are.targets ++ t ∷ [];
  same = take_more numbers k z within ∙ (ap (λ (ns : List ℤ). ns ++ get_or numbers k z ∷ []) are.same
      ∙ (ap (λ (n : ℤ). map pos are.targets ++ n ∷ []) (sym at ∙ is) ∙ sym (map-append pos are.targets (t ∷ []))));
  within = All-push (λ (u : ℕ). u ≤ count) are.targets t are.within small;
  kept = more ∙ (ap (λ (ms : Moves). ms ++ moves_among ((symbol, t) ∷ [])) are.kept
      ∙ (ap (λ (n : ℕ). moves_among (numbered_from 1 are.targets) ++ moves_among ((n, t) ∷ [])) last
      ∙ (sym (filter-append (λ (e : ℕ × ℕ). not (nat_eq e.1 0)) (numbered_from 1 are.targets) ((1 + length are.targets, t) ∷ []))
      ∙ ap moves_among (sym (numbered-append 1 are.targets t)))));
}
  where
    last : symbol ≡ 1 + length are.targets
    last =
        let all = sym (length-map are.targets pos) ∙ sym (ap length are.same) in
        let some = length-take k numbers in omega (arith, all, some)

-- no entry has a symbol that isn't found
lookup_absent : (entries : List (ℕ × ℕ)) (symbol : ℕ) → lookup entries symbol ≡ None → All (λ (e : ℕ × ℕ). e.0 ≢ symbol) entries
lookup_absent [] symbol none = All-nil (λ (e : ℕ × ℕ). e.0 ≢ symbol)
lookup_absent (e ∷ entries) symbol none = go (cases_eq e.0 symbol) (λ there. lookup_absent entries symbol there)
  where
    never : {t : ℕ} → Some t ≡ None → ⊥
    never e = cc

    go : (e.0 ≡ symbol) ⊎ (e.0 ≡ symbol → ⊥) → (lookup entries symbol ≡ None → All (λ (x : ℕ × ℕ). x.0 ≢ symbol) entries)
        → All (λ (x : ℕ × ℕ). x.0 ≢ symbol) (e ∷ entries)
    go (inl same) later = absurd (never (sym (lookup_here e entries symbol same) ∙ none))
    go (inr other) later = All-cons (λ (x : ℕ × ℕ). x.0 ≢ symbol) e entries other (later (sym (lookup_there e entries symbol other) ∙ none))

at_same : (a b : ℕ) → a ≡ b → is_eq (nat_cmp a b) ≡ true
at_same a b e = grind (arith, nat_tests)

at_other : (a b : ℕ) → (a ≡ b → ⊥) → is_eq (nat_cmp a b) ≡ false
at_other a b n = grind (arith, nat_tests)

-- one more entry, of a new symbol
are_more : (size count : ℕ) (pairs : List (ℤ × ℤ)) (k : ℕ) (pair : ℤ × ℤ) (entries : List (ℕ × ℕ)) (symbol t : ℕ) → k < length pairs → pair ≡ get_or pairs k pair
    → AreEntries size count (take k pairs) entries → pair ≡ (pos symbol, pos t) → (0 < symbol) × (symbol ≤ size) → t ≤ count
    → All (λ (e : ℕ × ℕ). e.0 ≢ symbol) entries → AreEntries size count (take (k + 1) pairs) (entries ++ (symbol, t) ∷ [])
are_more size count pairs k pair entries symbol t within at are is bounds small new = record {
  same = take_more pairs k pair within ∙ (ap (λ (ps : List (ℤ × ℤ)). ps ++ get_or pairs k pair ∷ []) are.same
      ∙ (ap (λ (p : ℤ × ℤ). map (λ (e : ℕ × ℕ). (pos e.0, pos e.1)) entries ++ p ∷ []) (sym at ∙ is)
      ∙ sym (map-append (λ (e : ℕ × ℕ). (pos e.0, pos e.1)) entries ((symbol, t) ∷ []))));
  apart = all_pairs_push (λ (e : ℕ × ℕ) (later : ℕ × ℕ). e.0 ≢ later.0) entries (symbol, t) are.apart new;
  symbols = All-push (λ (e : ℕ × ℕ). (0 < e.0) × (e.0 ≤ size)) entries (symbol, t) are.symbols bounds;
  targets = All-push (λ (e : ℕ × ℕ). e.1 ≤ count) entries (symbol, t) are.targets small;
}

pub entries_more : (size count : ℕ) (pairs : List (ℤ × ℤ)) (k : ℕ) (pair : ℤ × ℤ) (found new : BTreeMap ℕ ℕ) (symbol t : ℕ) → k < length pairs → pair ≡ get_or pairs k pair
    → HasEntries size count (take k pairs) found → pair ≡ (pos symbol, pos t) → (0 < symbol) × (symbol ≤ size) → t ≤ count
    → get nat_cmp found symbol ≡ None → Updates nat_cmp found new symbol (Some t) → HasEntries size count (take (k + 1) pairs) new
entries_more size count pairs k pair found new symbol t within at has is bounds small absent updates = record {
  entries = has.entries ++ (symbol, t) ∷ [];
  are = are_more size count pairs k pair has.entries symbol t within at has.are is bounds small (lookup_absent has.entries symbol none);
  each = λ q. updates.0 q ∙ go q (cases_eq symbol q);
}
  where
    none : lookup has.entries symbol ≡ None
    none = sym (has.each symbol) ∙ absent

    go : (q : ℕ) → (symbol ≡ q) ⊎ (symbol ≡ q → ⊥) → cond (is_at (nat_cmp symbol) q) (Some t) (get nat_cmp found q) ≡ lookup (has.entries ++ (symbol, t) ∷ []) q
    go q (inl same) =
        ap (λ (b : Bool). cond b (Some t) (get nat_cmp found q)) (at_same symbol q same)
        ∙ sym (ap (lookup (has.entries ++ (symbol, t) ∷ [])) (sym same) ∙ lookup-push_same has.entries symbol t none)
    go q (inr other) =
        ap (λ (b : Bool). cond b (Some t) (get nat_cmp found q)) (at_other symbol q other)
        ∙ (has.each q ∙ sym (lookup-push_other has.entries symbol t q (λ same. other (sym same))))

-- one more entry, of a greater symbol
pub ascending_more : (size count last : ℕ) (pairs : List (ℤ × ℤ)) (k : ℕ) (pair : ℤ × ℤ) (moves more : Moves) (symbol t : ℕ) → k < length pairs → pair ≡ get_or pairs k pair
    → AreAscendingEntries size count last (take k pairs) moves → pair ≡ (pos symbol, pos t) → (0 < symbol) × (symbol ≤ size) → t ≤ count → last < symbol
    → more ≡ moves ++ moves_among ((symbol, t) ∷ []) → AreAscendingEntries size count symbol (take (k + 1) pairs) more
ascending_more size count last pairs k pair moves more symbol t within at has is bounds small above longer = record {
  entries = has.entries ++ (symbol, t) ∷ [];
  are = are_more size count pairs k pair has.entries symbol t within at has.are is bounds small
      (All-weaker (λ (e : ℕ × ℕ). e.0 ≤ last) (λ (e : ℕ × ℕ). e.0 ≢ symbol) (λ e low same. omega (arith, low, same, above)) has.entries has.upto);
  ascends = all_pairs_push (λ (e : ℕ × ℕ) (later : ℕ × ℕ). e.0 < later.0) has.entries (symbol, t) has.ascends
      (All-weaker (λ (e : ℕ × ℕ). e.0 ≤ last) (λ (e : ℕ × ℕ). e.0 < symbol) (λ e low. omega (arith, low, above)) has.entries has.upto);
  upto = All-push (λ (e : ℕ × ℕ). e.0 ≤ symbol) has.entries (symbol, t)
      (All-weaker (λ (e : ℕ × ℕ). e.0 ≤ last) (λ (e : ℕ × ℕ). e.0 ≤ symbol) (λ e low. omega (arith, low, above)) has.entries has.upto) (omega arith);
  kept = longer ∙ (ap (λ (ms : Moves). ms ++ moves_among ((symbol, t) ∷ [])) has.kept
      ∙ sym (filter-append (λ (e : ℕ × ℕ). not (nat_eq e.1 0)) has.entries ((symbol, t) ∷ [])));
}

positive_symbols : (size count : ℕ) (pairs : List (ℤ × ℤ)) (entries : List (ℕ × ℕ)) → AreEntries size count pairs entries → All (λ (e : ℕ × ℕ). 0 < e.0) entries
positive_symbols size count pairs entries are =
    All-weaker (λ (e : ℕ × ℕ). (0 < e.0) × (e.0 ≤ size)) (λ (e : ℕ × ℕ). 0 < e.0) (λ e bounds. bounds.0) entries are.symbols

pub ascending_is_row : (size count last : ℕ) (pairs : List (ℤ × ℤ)) (moves : Moves) → AreAscendingEntries size count last pairs moves → IsRow moves
ascending_is_row size count last pairs moves has =
    let P : Moves → Type 0 = λ ms. IsRow ms in
    subst P (sym has.kept) (row_among has.entries has.ascends (positive_symbols size count pairs has.entries has.are))

pub ascending_row_is : (size count last : ℕ) (pairs : List (ℤ × ℤ)) (moves : Moves) → AreAscendingEntries size count last pairs moves → IsSparseRow size count pairs moves
ascending_row_is size count last pairs moves has = record {
  entries = has.entries;
  are = has.are;
  is_row = ascending_is_row size count last pairs moves has;
  each = λ symbol. ap (λ (ms : Moves). target ms symbol) has.kept ∙ target_among has.entries symbol has.ascends;
}

-- an earlier pair has the symbol
pub record StandsEarlier (pairs : List (ℤ × ℤ)) (k symbol : ℕ) : Type 0 where
  pub j : ℕ
  pub u : ℤ
  pub before : j < k
  pub at : slice_get pairs j ≡ Some (pos symbol, u)

slice_get_take : {A : Type 0} (xs : List A) (k j : ℕ) (x : A) → slice_get (take k xs) j ≡ Some x → (slice_get xs j ≡ Some x) × (j < k)
slice_get_take [] zero j x e = cc
slice_get_take [] (suc k) j x e = cc
slice_get_take (y ∷ xs) zero j x e = cc
slice_get_take (y ∷ xs) (suc k) zero x e = (e, omega arith)
slice_get_take (y ∷ xs) (suc k) (suc j) x e = let rest = slice_get_take xs k j x e in (rest.0, omega (arith, rest.1))

pub twice : (size count : ℕ) (pairs : List (ℤ × ℤ)) (k : ℕ) (found : BTreeMap ℕ ℕ) (symbol : ℕ) → HasEntries size count (take k pairs) found
    → IsSome (get nat_cmp found symbol) → StandsEarlier pairs k symbol
twice size count pairs k found symbol has some = go (get nat_cmp found symbol) refl some
  where
    go : (o : Option ℕ) → get nat_cmp found symbol ≡ o → IsSome o → StandsEarlier pairs k symbol
    go None is some = absurd (no some)
      where
        no : IsSome {T = ℕ} None → ⊥
        no e = cc
    go (Some t) is some =
        let entry = entry_from_lookup has.entries symbol t (sym (has.each symbol) ∙ is) in
        let stands = slice_get-get_or has.entries entry.0 (symbol, t) entry.1 ∙ ap Some entry.2 in
        let mapped = slice_get-map (λ (e : ℕ × ℕ). (pos e.0, pos e.1)) has.entries entry.0 ∙ ap (option_map (λ (e : ℕ × ℕ). (pos e.0, pos e.1))) stands in
        let there = ap (λ (ps : List (ℤ × ℤ)). slice_get ps entry.0) has.are.same ∙ mapped in
        let earlier = slice_get_take pairs k entry.0 (pos symbol, pos t) there in
        record { j = entry.0; u = pos t; before = earlier.1; at = earlier.0 }

pub some_is : {o : Option ℕ} {t : ℕ} → o ≡ Some t → IsSome o
some_is {o} {t} e = ap is_some e

pub none_is : (o : Option ℕ) → is_some o ≡ false → o ≡ None
none_is None e = refl
none_is (Some t) e = cc

-- what is found is an entry
pub symbol_positive : (size count : ℕ) (pairs : List (ℤ × ℤ)) (found : BTreeMap ℕ ℕ) → HasEntries size count pairs found
    → (symbol : ℕ) → IsSome (get nat_cmp found symbol) → 0 < symbol
symbol_positive size count pairs found has symbol some = go (get nat_cmp found symbol) refl some
  where
    go : (o : Option ℕ) → get nat_cmp found symbol ≡ o → IsSome o → 0 < symbol
    go None is some = absurd (no some)
      where
        no : IsSome {T = ℕ} None → ⊥
        no e = cc
    go (Some t) is some =
        (All-contains (λ (e : ℕ × ℕ). (0 < e.0) × (e.0 ≤ size)) has.entries (symbol, t) has.are.symbols
        (entry_from_lookup has.entries symbol t (sym (has.each symbol) ∙ is))).0

-- the keys of a map ascend
pub ascends_ordered : (entries : List (ℕ × ℕ)) → IsStrictlySortedBy nat_cmp (keys_of entries) → Ascends entries
ascends_ordered entries sorted = λ i j d before within.
    let count = length-map entries (λ (e : ℕ × ℕ). e.0) in
    let below = below_from_sorted (keys_of entries) i j d.0 sorted before (omega (arith, within, count)) in
    let first = get_or-map (λ (e : ℕ × ℕ). e.0) entries i d d.0 (omega (arith, before, within)) in
    let second = get_or-map (λ (e : ℕ × ℕ). e.0) entries j d d.0 within in
    omega (arith, below, first, second)

lookups_same : (entries : List (ℕ × ℕ)) (symbol : ℕ) → lookup entries symbol ≡ std_map.lookup (is_at (nat_cmp symbol)) entries
lookups_same [] symbol = refl
lookups_same (e ∷ entries) symbol = go (cases_eq e.0 symbol) (lookups_same entries symbol)
  where
    go : (e.0 ≡ symbol) ⊎ (e.0 ≡ symbol → ⊥) → lookup entries symbol ≡ std_map.lookup (is_at (nat_cmp symbol)) entries
        → lookup (e ∷ entries) symbol ≡ std_map.lookup (is_at (nat_cmp symbol)) (e ∷ entries)
    go (inl same) rest =
        lookup_here e entries symbol same
        ∙ sym (ap (λ (b : Bool). cond b (Some e.1) (std_map.lookup (is_at (nat_cmp symbol)) entries)) (at_same symbol e.0 (sym same)))
    go (inr other) rest =
        lookup_there e entries symbol other ∙ (rest
        ∙ sym (ap (λ (b : Bool). cond b (Some e.1) (std_map.lookup (is_at (nat_cmp symbol)) entries)) (at_other symbol e.0 (λ same. other (sym same)))))

-- the row of a map's moves has those of the pairs
pub sparse_row_is : (size count : ℕ) (pairs : List (ℤ × ℤ)) (found : BTreeMap ℕ ℕ) (row : Moves) → HasEntries size count pairs found
    → row ≡ moves_among found.entries → Ascends found.entries → All (λ (e : ℕ × ℕ). get nat_cmp found e.0 ≡ Some e.1) found.entries → IsSparseRow size count pairs row
sparse_row_is size count pairs found row has is ascends each = record {
  entries = has.entries;
  are = has.are;
  is_row = let P : Moves → Type 0 = λ ms. IsRow ms in subst P (sym is) (row_among found.entries ascends from_one);
  each = λ symbol. ap (λ (ms : Moves). target ms symbol) is ∙ (target_among found.entries symbol ascends
      ∙ ap (λ (o : Option ℕ). unwrap_or o 0) (lookups_same found.entries symbol ∙ has.each symbol));
}
  where
    from_one : All (λ (e : ℕ × ℕ). 0 < e.0) found.entries
    from_one = λ k d within. symbol_positive size count pairs found has (get_or found.entries k d).0 (some_is (each k d within))
