use Rattle.std.proofs.Common.{◌≡◌, true, rules}
use Rattle.kb_labels.specs.declared.config.Config.{Config}
use Rattle.kb_labels.specs.contracts.config.ConfigPartialEq.TheImpl.{eq-value}
use Rattle.kb_labels.proofs.Adding.{adds_new, adds_old}
use Rattle.kb_labels.proofs.layer.Layer.add.Goals as goal

same_config : (one two : Config) → eq-value.it one two ≡ true → one ≡ two
same_config = search rules

pub returns-in_ok-push : goal.returns-in_ok-push
returns-in_ok-push c =
    adds_new c.args.config c.args.word c.args.self.now.configs.keys c.args.self.now.words.items c.requires eq-value.it same_config
    c.insert_full.new.self.keys c.in_ok-index.is_new c.in_ok-index.ensures.added c.in_ok-index.ensures.keys c.push.new.self.items
    c.if-is_new.true c.in_ok-push.ensures.items

pub returns-else-is_new : goal.returns-else-is_new
returns-else-is_new c =
    adds_old c.args.config c.args.word c.args.self.now.configs.keys c.args.self.now.words.items c.requires eq-value.it same_config
    c.insert_full.new.self.keys c.in_ok-index.is_new c.in_ok-index.ensures.added c.in_ok-index.ensures.keys c.in_ok-index.index
    c.keep_lesser.new.words.items c.if-is_new.false c.in_ok-index.ensures.stored c.keep_lesser.ensures
