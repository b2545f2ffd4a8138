-- What lists have, and rows to which moves are added.
use Rattle.std.proofs.Common.{◌≡◌, ◌↔◌, ◌⊎◌, ℕ, zero, suc, ◌+◌, ◌<◌, Bool, true, false, IsTrue, List, [], ◌∷◌, ◌++◌, length, get_or, set, take, map, refl, sym, ap, ◌∙◌, subst, inl, inr, arith}
use Rattle.std.specs.Bool.{if◌then◌else◌}
use Rattle.std.specs.List.{Contains}
use Rattle.std.proofs.lemmas.Bool.{cases_eq}
use Rattle.std.proofs.lemmas.List.{take_more, length-set, get_or-set_same, get_or-set_other}
use Rattle.std.proofs.lemmas.List.Elements.{Contains-append_left, Contains-append_right, Contains-push_cases}
use Rattle.kb_fsa.specs.Table.{Moves}
use Rattle.kb_fsarat.specs.Reversal.{HaveAdded}

pub Contains-nil : {X : Type 0} (x : X) → ¬ Contains [] x
Contains-nil x has = let within = has.1 in absurd (omega arith)

pub Contains-same : {X : Type 0} (xs ys : List X) (x : X) → xs ≡ ys → Contains xs x → Contains ys x
Contains-same {X} xs ys x same has = let P : List X → Type 0 = λ zs. Contains zs x in subst P same has

pub Contains-cons : {X : Type 0} (x : X) (xs : List X) (y : X) → Contains xs y → Contains (x ∷ xs) y
Contains-cons x xs y has = (suc has.0, let within = has.1 in omega arith, has.2)

pub Contains-head : {X : Type 0} (x : X) (xs : List X) → Contains (x ∷ xs) x
Contains-head x xs = (0, omega arith, refl)

pub Contains-cons_cases : {X : Type 0} (x : X) (xs : List X) (y : X) → Contains (x ∷ xs) y → (x ≡ y) ⊎ Contains xs y
Contains-cons_cases x xs y (zero, within, is) = inl is
Contains-cons_cases x xs y (suc k, within, is) = inr (k, omega arith, is)

-- one element more of a list's front
pub Contains-take_more : {X : Type 0} (xs : List X) (i : ℕ) (d x : X) → i < length xs
    → Contains (take (i + 1) xs) x ↔ (Contains (take i xs) x ⊎ (get_or xs i d ≡ x))
Contains-take_more xs i d x within = (
  λ has. Contains-push_cases (take i xs) (get_or xs i d) x (Contains-same _ _ x (take_more xs i d within) has),
  λ has. Contains-same _ _ x (sym (take_more xs i d within)) (elim has [
    | inl before ↦ Contains-append_left (take i xs) (get_or xs i d ∷ []) x before
    | inr here ↦ Contains-append_right (take i xs) (get_or xs i d ∷ []) x (0, omega arith, here)
  ]),
)

-- ---- rows to which moves are added

pub HaveAdded-none : (rows : List Moves) (Added : ℕ → ℕ × ℕ → Type 0) → ((place : ℕ) (move : ℕ × ℕ) → ¬ Added place move) → HaveAdded rows rows Added
HaveAdded-none rows Added none = record {
  one_row_each = refl;
  moves = λ place move. (λ has. inl has, λ has. elim has [ inl before ↦ before | inr added ↦ absurd (none place move added) ]);
}

pub HaveAdded-same : (before after : List Moves) (Added Others : ℕ → ℕ × ℕ → Type 0) → HaveAdded before after Added
    → ((place : ℕ) (move : ℕ × ℕ) → Added place move ↔ Others place move) → HaveAdded before after Others
HaveAdded-same before after Added Others have same = record {
  one_row_each = have.one_row_each;
  moves = λ place move. (
    λ has. elim ((have.moves place move).0 has) [ inl old ↦ inl old | inr added ↦ inr ((same place move).0 added) ],
    λ has. (have.moves place move).1 (elim has [ inl old ↦ inl old | inr added ↦ inr ((same place move).1 added) ]),
  );
}

pub HaveAdded-then : (before middle after : List Moves) (First Second : ℕ → ℕ × ℕ → Type 0) → HaveAdded before middle First
    → HaveAdded middle after Second → HaveAdded before after (λ place move. First place move ⊎ Second place move)
HaveAdded-then before middle after First Second one two = record {
  one_row_each = two.one_row_each ∙ one.one_row_each;
  moves = λ place move. (
    λ has. elim ((two.moves place move).0 has) [
      | inl mid ↦ elim ((one.moves place move).0 mid) [ inl old ↦ inl old | inr first ↦ inr (inl first) ]
      | inr second ↦ inr (inr second)
    ],
    λ has. (two.moves place move).1 (elim has [
      | inl old ↦ inl ((one.moves place move).1 (inl old))
      | inr added ↦ elim added [ inl first ↦ inl ((one.moves place move).1 (inr first)) | inr second ↦ inr second ]
    ]),
  );
}

-- a move more in the row of a place
abbrev pub IsPushed : ℕ → ℕ × ℕ → ℕ → ℕ × ℕ → Type 0
IsPushed at pushed place move = (place ≡ at) × (pushed ≡ move)

pub HaveAdded-push : (rows : List Moves) (at : ℕ) (pushed : ℕ × ℕ) → at < length rows
    → HaveAdded rows (set rows at (get_or rows at [] ++ pushed ∷ [])) (IsPushed at pushed)
HaveAdded-push rows at pushed within = record {
  one_row_each = length-set rows at _;
  moves = λ place move. elim (cases_eq place at) [
    | inl here ↦
        let row : get_or (set rows at (get_or rows at [] ++ pushed ∷ [])) place [] ≡ get_or rows place [] ++ pushed ∷ [] =
        ap (λ p. get_or (set rows at (get_or rows at [] ++ pushed ∷ [])) p []) here ∙ get_or-set_same rows at _ [] within
        ∙ sym (ap (λ p. get_or rows p [] ++ pushed ∷ []) here) in (
          λ has. elim (Contains-push_cases (get_or rows place []) pushed move (Contains-same _ _ move row has)) [
            | inl old ↦ inl old
            | inr new ↦ inr (here, new)
          ],
          λ has. Contains-same _ _ move (sym row) (elim has [
            | inl old ↦ Contains-append_left (get_or rows place []) (pushed ∷ []) move old
            | inr new ↦ Contains-append_right (get_or rows place []) (pushed ∷ []) move (0, omega arith, new.1)
          ]),
        )
    | inr there ↦
        let row : get_or (set rows at (get_or rows at [] ++ pushed ∷ [])) place [] ≡ get_or rows place [] =
        get_or-set_other rows at place _ [] there in (
          λ has. inl (Contains-same _ _ move row has),
          λ has. Contains-same _ _ move (sym row) (elim has [ inl old ↦ old | inr new ↦ absurd (there new.0) ]),
        )
  ];
}

-- ---- what lists made of others have

pub Contains-map : {X Y : Type 0} (f : X → Y) (xs : List X) (y : Y) → Contains (map f xs) y ↔ ((x : X) × (Contains xs x × (f x ≡ y)))
Contains-map f [] y = (λ has. absurd (Contains-nil y has), λ from. absurd (Contains-nil from.0 from.1.0))
Contains-map {X} f (x ∷ xs) y = (
  λ has. elim (Contains-cons_cases (f x) (map f xs) y has) [
    | inl here ↦ (x, (Contains-head x xs, here))
    | inr there ↦
        let from = (Contains-map f xs y).0 there in (from.0, (Contains-cons x xs from.0 from.1.0, from.1.1))
  ],
  λ from. elim (Contains-cons_cases x xs from.0 from.1.0) [
    | inl here ↦ (0, omega arith, ap f here ∙ from.1.1)
    | inr there ↦ Contains-cons (f x) (map f xs) y ((Contains-map f xs y).1 (from.0, (there, from.1.1)))
  ],
)

pub Contains-if : {X : Type 0} (b : Bool) (xs : List X) (x : X) → Contains (if b then xs else []) x ↔ (IsTrue b × Contains xs x)
Contains-if true xs x = (λ has. (refl, has), λ has. has.1)
Contains-if false xs x = (λ has. absurd (Contains-nil x has), λ has. absurd (let one = has.0 in let no : ⊥ = cc in no))
