use Rattle.std.proofs.Common.{◌≡◌, ℕ, List, [], ◌∷◌, ◌++◌, Option, Some, length, sym, ap, ◌∙◌, inl, inr, arith}
use Rattle.std.proofs.lemmas.Bool.{cases_lt}
use Rattle.std.proofs.lemmas.Result.{IfOk-weaker, on_err_weaker, on_ok_weaker}
use Rattle.kb_trie.specs.States.{word}
use Rattle.kb_trie.specs.LeftSides.{LeftSides}
use Rattle.kb_trie.specs.Lookups.{lefts_of, states_in}
use Rattle.kb_trie.proofs.Entries.{lefts_grown, lookup_grown}
use Rattle.kb_trie.proofs.Numbers.{on_err_any}
use Rattle.kb_trie.proofs.lookup.Lookup.push.Goals as goal

pub add-requires-clause-some : goal.add-requires-clause-some
add-requires-clause-some c =
    let has = c.in_ok-state.ensures.word in
    elim (cases_lt 0 c.in_ok-state.state) [
      | inl some ↦ some
      | inr none ↦
          let root : c.in_ok-state.state ≡ 0 = omega arith in
          absurd (c.requires (sym has.is ∙ ap (word c.insert.new.self.words) root ∙ c.insert.ensures.words.root))
    ]

pub returns-clause-number : goal.returns-clause-number
returns-clause-number c =
    let lookup = c.self.inside in
    let grows = c.insert.ensures.grows in
    let kept : lefts_of c.insert.new.self.words (states_in lookup.entries.items) ≡ c.args.self.now.lefts =
    ap (λ (ws : List (List ℕ)). lefts_of ws (states_in c.self.inside.entries.items)) grows.words
    ∙ lefts_grown lookup.trie lookup.entries.items grows.more c.self.invariant ∙ ap (λ (v : LeftSides). v.lefts) c.self.view_is in
    IfOk-weaker c.add.result _ _ (λ number is. is ∙ ap length kept) c.add.ensures.number

pub returns-clause-ok : goal.returns-clause-ok
returns-clause-ok c =
    let lookup = c.self.inside in
    let grows = c.insert.ensures.grows in
    let kept : lefts_of c.insert.new.self.words (states_in lookup.entries.items) ≡ c.args.self.now.lefts =
    ap (λ (ws : List (List ℕ)). lefts_of ws (states_in c.self.inside.entries.items)) grows.words
    ∙ lefts_grown lookup.trie lookup.entries.items grows.more c.self.invariant ∙ ap (λ (v : LeftSides). v.lefts) c.self.view_is in
    on_ok_weaker c.add.result
    (λ same.
    same ∙ ap (λ (ls : List (Option (List ℕ))). ls ++ Some (word c.insert.new.self.words c.in_ok-state.state) ∷ []) kept
    ∙ ap (λ (w : List ℕ). c.args.self.now.lefts ++ Some w ∷ []) c.in_ok-state.ensures.word.is)
    c.add.ensures.ok

pub returns-clause-err : goal.returns-clause-err
returns-clause-err c =
    let lookup = c.self.inside in
    let grows = c.insert.ensures.grows in
    let kept : lefts_of c.insert.new.self.words (states_in lookup.entries.items) ≡ c.args.self.now.lefts =
    ap (λ (ws : List (List ℕ)). lefts_of ws (states_in c.self.inside.entries.items)) grows.words
    ∙ lefts_grown lookup.trie lookup.entries.items grows.more c.self.invariant ∙ ap (λ (v : LeftSides). v.lefts) c.self.view_is in
    on_err_weaker c.add.result (λ same. same ∙ kept) c.add.ensures.err

pub returns-clause-words : goal.returns-clause-words
returns-clause-words c =
    let grows = c.insert.ensures.grows in (
      grows.more,
      c.add.ensures.words ∙ grows.words ∙ ap (λ (v : LeftSides). v.words ++ c.insert.ensures.grows.more) c.self.view_is,
    )

pub returns-in_err-state-clause-err : goal.returns-in_err-state-clause-err
returns-in_err-state-clause-err c =
    let lookup = c.self.inside in
    let grows = c.insert.ensures.grows in
    on_err_any _
    (ap (λ (ws : List (List ℕ)). lefts_of ws (states_in c.self.inside.entries.items)) grows.words
    ∙ lefts_grown lookup.trie lookup.entries.items grows.more c.self.invariant ∙ ap (λ (v : LeftSides). v.lefts) c.self.view_is)

pub returns-in_err-state-clause-words : goal.returns-in_err-state-clause-words
returns-in_err-state-clause-words c =
    let grows = c.insert.ensures.grows in
    (grows.more, grows.words ∙ ap (λ (v : LeftSides). v.words ++ c.insert.ensures.grows.more) c.self.view_is)

pub invariant_of-self : goal.invariant_of-self
invariant_of-self c =
    let lookup = c.self.inside in
    lookup_grown c.args.left.now lookup.trie c.insert.new.self lookup.entries.items c.insert.ensures.grows c.insert.ensures.words c.self.invariant

pub invariant_of-self-2 : goal.invariant_of-self-2
invariant_of-self-2 c =
    let lookup = c.self.inside in
    lookup_grown c.args.left.now lookup.trie c.insert.new.self lookup.entries.items c.insert.ensures.grows c.insert.ensures.words c.self.invariant
