use Rattle.std.proofs.Common.{[], ◌++◌, sym, ap, ◌∙◌}
use Rattle.std.proofs.lemmas.List.{append_assoc, flat_map_more}
use Rattle.std.proofs.lemmas.List.Elements.{All-push}
use Rattle.derivation.specs.LogText.{IsLine, line_text, text_of_log}
use Rattle.derivation.proofs.log_reader.lines_of.Goals as goal

pub loop-rest-preserved : goal.loop-rest-preserved
loop-rest-preserved c =
    let found = rw c.in-Some.is at c.in_ok-line.ensures.found in
    rw c.in_ok-push.ensures.ok (
      All-push (IsLine c.args.vars) c.loop-rest.log c.in-Some.line c.loop-rest.invariant.0 found.0,
      c.loop-rest.invariant.1
          ∙ ap (λ r. text_of_log c.loop-rest.log ++ r) found.1
          ∙ sym (append_assoc (text_of_log c.loop-rest.log) (line_text c.in-Some.line) c.in-Some.behind.now)
          ∙ ap (λ t. t ++ c.in-Some.behind.now) (flat_map_more line_text [] c.loop-rest.log c.in-Some.line),
    )
