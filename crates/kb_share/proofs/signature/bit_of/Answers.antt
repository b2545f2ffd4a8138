use Rattle.std.proofs.Common.{◌≡◌, ℕ, suc, ◌+◌, ◌*◌, ◌%◌, ◌^◌, ◌<◌, ◌≤◌, List, length, get_or, drop, ◌∷◌, sym, ◌∙◌, ap, subst, rules, arith}
use Rattle.std.proofs.lemmas.List.{get_or_default}
use Rattle.std.proofs.Math.Seq.{drop-cons}
use Rattle.std.proofs.Math.ListN.{drop_of_length-le}
use Rattle.kb_share.specs.Signatures.{bit_alone, bit_number, hash_on}
use Rattle.kb_share.proofs.signature.bit_of.Goals as goal

-- a letter more
hash_more : (window : List ℕ) (index hash letter : ℕ) → index < length window → letter ≡ get_or window index 0
    → hash_on 0 window ≡ hash_on hash (drop index window)
    → hash_on 0 window ≡ hash_on ((hash * 0x9e37_79b9_7f4a_7c15 % 2 ^ 64 + letter) % 2 ^ 64) (drop (index + 1) window)
unfolding hash_on
hash_more window index hash letter low read is =
    let next : suc index ≡ index + 1 = omega arith in
    let P : ℕ → Type 0 = λ n. hash_on 0 window ≡ hash_on ((hash * 0x9e37_79b9_7f4a_7c15 % 2 ^ 64 + n) % 2 ^ 64) (drop (index + 1) window) in
    let Q : ℕ → Type 0 = λ n. drop index window ≡ get_or window index 0 ∷ drop n window in
    subst P (sym read) (is ∙ ap (hash_on hash) (subst Q next (drop-cons window index 0 low)))

-- the hash of all letters
hash_whole : (window : List ℕ) (index hash : ℕ) → length window ≤ index → hash_on 0 window ≡ hash_on hash (drop index window)
    → hash_on 0 window ≡ hash
unfolding hash_on
hash_whole window index hash end is = is ∙ ap (hash_on hash) (drop_of_length-le window end)

-- the number of the letter that is read
letter_is : (window : List ℕ) (index letter number : ℕ) → index < length window → letter ≡ get_or window index letter → number ≡ letter
    → number ≡ get_or window index 0
letter_is window index letter number within read same = same ∙ read ∙ sym (get_or_default window index 0 letter within)

pub loop-letter-preserved : goal.loop-letter-preserved
loop-letter-preserved c =
    let window : List ℕ = c.args.window.now in
    let index : ℕ = c.loop-letter.letter-index in
    hash_more window index c.loop-letter.hash c.number.result c.loop-letter-test.true
    (letter_is window index c.letter-item.result c.number.result c.loop-letter-test.true c.letter-item.is c.number.ensures)
    c.loop-letter.invariant

pub returns : goal.returns
unfolding bit_alone bit_number
returns c =
    let whole = hash_whole c.args.window.now c.loop-letter.letter-index c.loop-letter.hash c.loop-letter-test.false c.loop-letter.invariant in
    let alone : c.wrapping_shl.result ≡ bit_alone c.loop-letter.hash = search rules in
    alone ∙ ap bit_alone (sym whole)
