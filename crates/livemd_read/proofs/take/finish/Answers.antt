use Rattle.std.proofs.Common.{◌≡◌, ◌++◌, ◌∷◌, [], sym, ap, ◌∙◌}
use Rattle.std.specs.String.{string_bytes}
use Rattle.std.proofs.lemmas.List.{append-nil}
use Rattle.livemd_format.specs.Items.{Markdown}
use Rattle.livemd_read.specs.declared.open.Open.{Open}
use Rattle.livemd_read.specs.Resume.{resume}
use Rattle.livemd_read.specs.Views.{cut_of}
use Rattle.livemd_read.proofs.Steps.{fence_last}
use Rattle.livemd_read.proofs.take.finish.Goals as goal

pub returns-in_ok-push-in-Text : goal.returns-in_ok-push-in-Text
returns-in_ok-push-in-Text c = record {
  ok = λ number.
      c.in_ok-push-in-Text.ensures.items
      ∙ (ap (λ t. cut_of c.args.done.now ++ Markdown t ∷ []) (sym (append-nil (string_bytes c.in-Text.passage.source)))
      ∙ ap (λ (o : Open). resume (cut_of c.args.done.now) o number []) (sym c.in-Text.is));
}

pub returns-in-Fence : goal.returns-in-Fence
returns-in-Fence c = record { ok = fence_last _ c.args.done.now c.push_fence.new.done c.in-Fence.what c.in-Fence.source c.args.pending c.in-Fence.is c.push_fence.ensures.items }
