use Rattle.kb_changes.proofs.SetLaws.{regrouped}
use Rattle.kb_changes.proofs.placed.is_kept_out.Goals as goal

pub returns : goal.returns
returns c =
    regrouped _ _ _ _ _ _ _ _ _ _ c.is_at_or_below_entry-journal.ensures c.is_at_or_below_entry-dkms.ensures c.is_at_or_below_entry-src.ensures
    c.is_at_or_below_entry-modules.ensures c.is_at_or_below_entry-boot.ensures
