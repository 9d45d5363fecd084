use Rattle.std.proofs.Common.{◌+◌, ◌∙◌, ap, sym, refl, List, ℕ}
use Rattle.dds_idl.specs.Words.{front}
use Rattle.dds_idl.specs.declared.word.Word.{Word}
use Rattle.dds_idl.specs.Gap.{gap}
use Rattle.dds_idl.specs.declared.gap.Within.TheVariants.{Code}
use Rattle.dds_idl.proofs.Fronts.{found}
use Rattle.dds_idl.proofs.words.next_word.Goals as goal

pub returns-clause-ok : goal.returns-clause-ok
returns-clause-ok c =
    let w : Word = record {
      kind = c.in-Some-front_of.front.kind;
      gap = c.in-Some.blank;
      text = c.in-Some-split_at_checked.text;
      at = c.args.at + c.gap_of-gap.result.len;
    } in
    found c.args.at c.args.rest.now w c.in-Some.behind.now c.in-Some-split_at_checked.left.now
    c.gap_of-gap.result.len c.in-Some-front_of.front.len
    (c.gap_of-gap.ensures.len ∙ ap (λ (t : List ℕ). gap Code t) c.as_bytes.ensures.value)
    c.in-Some.ensures.front c.in-Some.ensures.back refl
    (ap front (sym c.as_bytes-2.ensures.value) ∙ sym c.front_of.ensures
    ∙ c.in-Some-front_of.is)
    c.in-Some-split_at_checked.ensures.front c.in-Some-split_at_checked.ensures.back
    c.in-Some.ensures.front_len c.in-Some.ensures.back_len
    c.in-Some-split_at_checked.ensures.front_len c.in-Some-split_at_checked.ensures.back_len
