use Rattle.std.proofs.Common.{drop, refl, sym, ap, ◌∙◌}
use Rattle.sb_frames.specs.Streaming.{StreamState}
use Rattle.sb_frames.proofs.NextEntry.{front_entry, skipped}
use Rattle.sb_frames.proofs.stream.Stream.skip_entry.Goals as goal

pub unwrap-size-requires : goal.unwrap-size-requires
unwrap-size-requires c =
    let seen = c.deref.ensures ∙ ap (λ (old : StreamState). old.unread) c.self.view_is in
    let front = front_entry c.args.self.now c.deref.result.now seen c.requires in
    rw (c.frame_size.ensures.exact ∙ front.4) refl

pub returns : goal.returns
returns c =
    let seen = c.deref.ensures ∙ ap (λ (old : StreamState). old.unread) c.self.view_is in
    let left = c.advance.ensures.items ∙ ap (drop c.unwrap-size.result) (sym c.deref.ensures) in
    let sized = sym c.frame_size.ensures.exact ∙ c.unwrap-size.ensures in
    skipped c.args.self.now c.deref.result.now c.advance.new.self.items c.self.inside.broken c.unwrap-size.result c.requires seen
    (ap (λ (old : StreamState). old.failed) c.self.view_is) sized left
