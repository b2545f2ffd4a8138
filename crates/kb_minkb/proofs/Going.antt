-- Where both words of a pair go on.
use Rattle.std.proofs.Common.{◌≡◌, ℕ, ◌+◌, ◌<◌, ◌≤◌, List, [], ◌∷◌, ◌++◌, length, sym, ap, ◌∙◌, inl, inr, arith}
use Rattle.std.proofs.lemmas.Bool.{cases_lt}
use Rattle.std.proofs.lemmas.List.{length_push}
use Rattle.kb_fsa.specs.PairSymbols.{pair_symbol}
use Rattle.kb_fsa.specs.Padding.{padded, IsPadded, IsTextOfPair}
use Rattle.kb_fsa.proofs.PairSymbolLaws.{IsLetter}
use Rattle.kb_fsa.proofs.Paddings.{padded-injective}
use Rattle.kb_rules.proofs.Lists.{FromEnd, from_end}
use Rattle.kb_rules.proofs.Lists.FromEnd.{empty, last}
use Rattle.kb_structure.proofs.Letters.{over_last, over_rest, over_first}
use Rattle.kb_minkb.proofs.LastSymbols.{LastSymbol, last_symbol, same_last, padded_first, padded_second, padded_both, first_of_last, second_of_last, first_of_padding}
use Rattle.kb_minkb.proofs.LastSymbols.LastSymbol.{of_first, of_both}

module _ {n : ℕ} {text u v : List ℕ} (pair : IsTextOfPair n text u v) (short : length v ≤ length u) (x : ℕ) (letter : IsLetter n x)
    (symbol : ℕ) where
  -- the text of the pair whose first word has a letter more
  pub text_first : symbol ≡ pair_symbol n x (n + 1) → IsTextOfPair n (text ++ symbol ∷ []) (u ++ x ∷ []) v
  text_first same = record {
    first_over = over_last n u x pair.first_over letter;
    second_over = pair.second_over;
    is_text =
        ap (λ t. t ++ symbol ∷ []) pair.is_text ∙ ap (λ s. padded n u v ++ s ∷ []) same ∙ sym (padded_first n u v x short);
  }

  module _ (y : ℕ) (other : IsLetter n y) (same : symbol ≡ pair_symbol n x y) where
    -- and of the pair whose words both have one
    pub text_both : length v ≡ length u → IsTextOfPair n (text ++ symbol ∷ []) (u ++ x ∷ []) (v ++ y ∷ [])
    text_both long = record {
      first_over = over_last n u x pair.first_over letter;
      second_over = over_last n v y pair.second_over other;
      is_text =
          ap (λ t. t ++ symbol ∷ []) pair.is_text ∙ ap (λ s. padded n u v ++ s ∷ []) same ∙ sym (padded_both n u v x y long);
    }

    goes_on : (left right : List ℕ) → LastSymbol n text symbol left right → length v ≡ length u
    goes_on _ _ (of_first a b z is low first is_symbol) =
        let one = second_of_last n x y symbol letter (other.0, omega (arith, other.1)) same in
        let two = second_of_last n z (n + 1) symbol first (omega arith, omega arith) is_symbol in
        let equal : y ≡ n + 1 = sym one ∙ two in
        absurd (let no : ⊥ = omega (arith, equal, other.1) in no)
    goes_on _ _ (of_both u' v' a b is long first second is_symbol) =
        let words = padded-injective n u v u' v' pair.first_over pair.second_over is.first_over is.second_over
        (sym pair.is_text ∙ is.is_text) in
        omega (arith, long, ap length words.0, ap length words.1)

    not_second : (left right : List ℕ) → FromEnd right → length left < length right → IsTextOfPair n (text ++ symbol ∷ []) left right → ⊥
    not_second left right empty longer is = omega arith
    not_second left right (last w z) longer is =
        let parts = same_last text (padded n left w) symbol (pair_symbol n (n + 1) z)
        (is.is_text ∙ padded_second n left w z (omega (arith, length_push w z))) in
        let last_is = over_first n z [] (over_rest n w (z ∷ []) is.second_over) in
        let one = first_of_last n x y symbol letter (other.0, omega (arith, other.1)) same in
        let two = first_of_padding n z symbol last_is parts.1 in
        let equal : x ≡ n + 1 = sym one ∙ two in
        omega (arith, equal, letter.1)

    -- where the text with the symbol is that of a pair, the words are equally long
    pub both_long : IsPadded n (text ++ symbol ∷ []) → length v ≡ length u
    both_long is =
        let whole : IsTextOfPair n (text ++ symbol ∷ []) is.first is.second =
        record { first_over = is.first_over; second_over = is.second_over; is_text = is.is_text } in
        elim (cases_lt (length is.first) (length is.second)) [
          | inl longer ↦ absurd (not_second is.first is.second (from_end is.second) longer whole)
          | inr low ↦ goes_on is.first is.second (last_symbol n text symbol is.first is.second low whole)
        ]
