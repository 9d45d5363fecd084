use Rattle.std.proofs.Common.{◌≡◌, ◌+◌, length, ◌∷◌, ◌++◌, [], List, arith, sym, subst, ◌∙◌}
use Rattle.std.proofs.lemmas.Grind.{common_steps}
use Rattle.dds_idl.specs.Words.{AreWords}
use Rattle.dds_idl.specs.declared.word.Word.{Word}
use Rattle.dds_idl.proofs.Fronts.{WordsBefore, last_word, next_word, no_words}
use Rattle.dds_idl.proofs.words.words.Goals as goal

pub words-init : goal.words-init
words-init c = record {
  so_far = subst (λ (ws : List Word). WordsBefore c.args.text.now ws 0 c.args.text.now)
      (sym c.new-words.ensures.items) (no_words c.args.text.now);
  in_range = omega arith;
  utf8 = c.utf8.text;
}

pub returns-in-End-clause-ok : goal.returns-in-End-clause-ok
returns-in-End-clause-ok c =
    let pushed : c.push.new.self.items ≡ c.words.words.items ++ c.in-Ok.word ∷ [] =
    grind (arith, common_steps, c.push.ensures.items, c.if-is_err.ensures.negation) in
    subst (AreWords 0 c.args.text.now) (sym pushed)
    (last_word c.args.text.now c.words.words.items c.words.at c.words.rest.now c.in-Ok.left.now
    c.in-Ok.word c.words.invariant.so_far c.in-Ok.ensures.ok c.in-End.is)

pub words-preserved : goal.words-preserved
words-preserved c =
    let pushed : c.push.new.self.items ≡ c.words.words.items ++ c.in-Ok.word ∷ [] =
    grind (arith, common_steps, c.push.ensures.items, c.if-is_err.ensures.negation) in
    record {
      so_far = subst (λ (ws : List Word). WordsBefore c.args.text.now ws
          (c.in-Ok.word.at + length c.in-Ok.word.text.now) c.in-Ok.left.now) (sym pushed)
          (next_word c.args.text.now c.words.words.items c.words.at c.words.rest.now
          c.in-Ok.left.now c.in-Ok.word c.words.invariant.so_far c.in-Ok.ensures.ok);
      in_range = c.in-Ok.ensures.ok.ends ∙ c.words.invariant.in_range;
      utf8 = c.in-Ok.ensures.utf8;
    }
