-- Files that stay as they are.
use Rattle.std.proofs.Common.{◌∙◌, arith}
use Rattle.sb_log.specs.LogFiles.{LogFileOf, Stays}

-- one call after others
pub stays_then : {F : Type 0} (IsHonest : F → Type 0) (model : F → LogFileOf) (old mid new : F)
    → Stays IsHonest model old mid → Stays IsHonest model mid new → Stays IsHonest model old new
stays_then IsHonest model old mid new first last = record {
  honest = ((λ h. last.honest.0 (first.honest.0 h)), (λ h. first.honest.1 (last.honest.1 h)));
  content_is = λ h. last.content_is (first.honest.0 h) ∙ first.content_is h;
  synced_in = λ h. omega (arith, last.synced_in (first.honest.0 h), first.synced_in h);
  syncable_in = λ h. omega (arith, last.syncable_in (first.honest.0 h), first.syncable_in h);
}
