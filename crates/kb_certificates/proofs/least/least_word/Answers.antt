use Rattle.std.proofs.Common.{◌^◌, ◌<◌, List, ℕ, sym, subst}
use Rattle.std.specs.List.{All}
use Rattle.kb_certificates.proofs.LedWords.{led_fits}
use Rattle.kb_certificates.proofs.least.least_word.Goals as goal

pub word_of-requires : goal.word_of-requires
word_of-requires g c =
    let follower = g.F.Follower.follower c.args.follower.now in
    let least = rw c.in-Some.is at c.in_ok-text.ensures.found in
    let P : List ℕ → Type 0 = λ word. All (λ letter. letter < 2 ^ 16) word in
    subst P (sym c.as_slice.ensures.value)
    (led_fits c.args.words.now c.requires c.alphabet-alphabet.ensures.automaton follower c.in-Some.text.items least.accepted)
