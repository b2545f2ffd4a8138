-- The grammar: the tokens of a tree, and which trees there are. No depth is limited here.
use Rattle.std.specs.Prelude.{◌≡◌, ℕ, ◌⊎◌, ℤ, List, [], ◌∷◌, ◌++◌, Option, Some, None}
use Rattle.kb_lexing.specs.Token.{Token, name, number, string, assign, open_round, close_round, open_square, close_square, comma, semicolon, star, caret, dots, rec_word}
use Rattle.kb_lexing.specs.Spelling.{TokensOf}
use Rattle.kb_record.specs.Tree.{Factor, named, grouped, Factors, no_factors, factor, Value, number_value, string_value, record_value, list_value, range_value, word_value, Fields, no_fields, field, Places, no_places, place, empty_place, TextTree}

abbrev pub power_tokens : Option ℤ → List Token
power_tokens None = []
power_tokens (Some z) = caret ∷ number z ∷ []

-- factors joined by `*`
abbrev mutual
  pub word_tokens : Factors → List Token
  word_tokens no_factors = []
  word_tokens (factor first others) = factor_tokens first ++ more_factors others

  pub factor_tokens : Factor → List Token
  factor_tokens (named text power) = name text ∷ power_tokens power
  factor_tokens (grouped factors power) =
      open_round ∷ word_tokens factors ++ close_round ∷ power_tokens power

  pub more_factors : Factors → List Token
  more_factors no_factors = []
  more_factors (factor next others) = star ∷ factor_tokens next ++ more_factors others

-- each word in the tree has a factor
abbrev mutual
  pub IsWord : Factors → Type 0
  IsWord no_factors = ⊥
  IsWord (factor first others) = IsFactorTree first × AreFactorTrees others

  pub IsFactorTree : Factor → Type 0
  IsFactorTree (named text power) = Unit {0}
  IsFactorTree (grouped factors power) = IsWord factors

  pub AreFactorTrees : Factors → Type 0
  AreFactorTrees no_factors = Unit {0}
  AreFactorTrees (factor next others) = IsFactorTree next × AreFactorTrees others

-- fields joined by `,` in `rec( )`; places joined by `,` in `[ ]`, which may be empty; a range `[m..n]`
abbrev mutual
  pub value_tokens : Value → List Token
  value_tokens (number_value z) = number z ∷ []
  value_tokens (string_value text) = string text ∷ []
  value_tokens (record_value fields) =
      rec_word ∷ open_round ∷ field_tokens fields ++ close_round ∷ []
  value_tokens (list_value places) = open_square ∷ place_tokens places ++ close_square ∷ []
  value_tokens (range_value from to) =
      open_square ∷ number from ∷ dots ∷ number to ∷ close_square ∷ []
  value_tokens (word_value factors) = word_tokens factors

  pub field_tokens : Fields → List Token
  field_tokens no_fields = []
  field_tokens (field text value others) =
      name text ∷ assign ∷ value_tokens value ++ more_fields others

  pub more_fields : Fields → List Token
  more_fields no_fields = []
  more_fields (field text value others) =
      comma ∷ name text ∷ assign ∷ value_tokens value ++ more_fields others

  pub place_tokens : Places → List Token
  place_tokens no_places = []
  place_tokens (place value others) = value_tokens value ++ more_places others
  place_tokens (empty_place others) = more_places others

  pub more_places : Places → List Token
  more_places no_places = []
  more_places (place value others) = comma ∷ value_tokens value ++ more_places others
  more_places (empty_place others) = comma ∷ more_places others

-- one empty place alone can't be written, since `[` `]` has none
abbrev pub IsPlaceList : Places → Type 0
IsPlaceList (empty_place no_places) = ⊥
IsPlaceList _ = Unit {0}

-- each word in the tree has a factor, and each list can be written
abbrev mutual
  pub IsValue : Value → Type 0
  IsValue (number_value z) = Unit {0}
  IsValue (string_value text) = Unit {0}
  IsValue (record_value fields) = AreFields fields
  IsValue (list_value places) = IsPlaceList places × ArePlaces places
  IsValue (range_value from to) = Unit {0}
  IsValue (word_value factors) = IsWord factors

  pub AreFields : Fields → Type 0
  AreFields no_fields = Unit {0}
  AreFields (field text value others) = IsValue value × AreFields others

  pub ArePlaces : Places → Type 0
  ArePlaces no_places = Unit {0}
  ArePlaces (place value others) = IsValue value × ArePlaces others
  ArePlaces (empty_place others) = ArePlaces others

-- NAME := rec( FIELDS ), with `;` behind it or nothing
abbrev pub IsText : List Token → TextTree → Type 0
IsText tokens text =
    let whole = name text.title ∷ assign ∷ value_tokens (record_value text.fields) in
    AreFields text.fields × ((tokens ≡ whole) ⊎ (tokens ≡ whole ++ semicolon ∷ []))

-- the factors of a word
abbrev pub IsWordText : List Token → Factors → Type 0
IsWordText tokens factors = IsWord factors × (tokens ≡ word_tokens factors)

-- the tokens of some text, and of some word
abbrev pub IsTextForm : List Token → Type 0
IsTextForm tokens = (text : TextTree) × IsText tokens text

abbrev pub IsWordForm : List Token → Type 0
IsWordForm tokens = (factors : Factors) × IsWordText tokens factors

-- the bytes are a text with this tree
pub record TextOf (bytes : List ℕ) (text : TextTree) : Type 0 where
  pub tokens : List Token
  pub spelled : TokensOf bytes tokens
  pub formed : IsText tokens text

-- the bytes are a word with this tree
pub record WordOf (bytes : List ℕ) (factors : Factors) : Type 0 where
  pub tokens : List Token
  pub spelled : TokensOf bytes tokens
  pub formed : IsWordText tokens factors
