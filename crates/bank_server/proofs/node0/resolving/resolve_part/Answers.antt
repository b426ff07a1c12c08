use Rattle.std.proofs.Common.{◌≡◌, ◌+◌, List, [], ◌∷◌, ◌++◌, length, map, take, sym, ap, subst, ◌∙◌}
use Rattle.std.proofs.lemmas.List.{map-append, take_more}
use Rattle.std.proofs.lemmas.List.Elements.{All-push}
use Rattle.sb_calls.specs.Op.{IsOpWithin, op_of}
use Rattle.sb_calls.specs.declared.op.Op.{Op}
use Rattle.bank_server.specs.inner.Appends.{AreOpsWithin}
use Rattle.bank_server.proofs.node0.resolving.resolve_part.Goals as goal

pub loop-call-preserved : goal.loop-call-preserved
loop-call-preserved c =
    let calls = c.args.calls.now in
    let index = c.loop-call.call-index in
    let names = c.args.directory.now in
    let call = c.call-item.result in
    let so_far = c.loop-call.invariant in
    let more : take (index + 1) calls ≡ take index calls ++ call ∷ [] =
    take_more calls index call c.loop-call-test.true ∙ ap (λ x. take index calls ++ x ∷ []) (sym c.call-item.is) in
    let pushed : c.push.new.self.items ≡ c.loop-call.ops.items ++ c.resolve.result ∷ [] = c.in_ok-push.ensures.items in
    record {
      value = pushed ∙ ap (λ op. c.loop-call.ops.items ++ op ∷ []) c.resolve.ensures.value
          ∙ ap (λ (ops : List Op). ops ++ op_of names call ∷ []) so_far.value
          ∙ sym (ap (map (op_of names)) more ∙ map-append (op_of names) (take index calls) (call ∷ []));
      within = subst (AreOpsWithin (length names)) (sym pushed)
          (All-push (IsOpWithin (length names)) c.loop-call.ops.items c.resolve.result so_far.within c.resolve.ensures.within);
    }
