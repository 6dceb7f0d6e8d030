-- Each key's arm takes the value, and the last one passes it over.
use Rattle.std.proofs.Common.{codes, refl}
use Rattle.kb_bls.proofs.HasLaws.{took, passed}
use Rattle.kb_bls.proofs.entry.Entry.take.Goals as goal

pub returns-in-title : goal.returns-in-title
returns-in-title c = took c.args.self.now _ c.args.key.now (codes "title") c.args.value c.in-title.is refl

pub returns-in-version : goal.returns-in-version
returns-in-version c = took c.args.self.now _ c.args.key.now (codes "version") c.args.value c.in-version.is refl

pub returns-in-text : goal.returns-in-text
returns-in-text c = took c.args.self.now _ c.args.key.now (codes "machine-id") c.args.value c.in-text.is refl

pub returns-in-text-2 : goal.returns-in-text-2
returns-in-text-2 c = took c.args.self.now _ c.args.key.now (codes "sort-key") c.args.value c.in-text-2.is refl

pub returns-in-linux : goal.returns-in-linux
returns-in-linux c = took c.args.self.now _ c.args.key.now (codes "linux") c.args.value c.in-linux.is refl

pub returns-in-efi : goal.returns-in-efi
returns-in-efi c = took c.args.self.now _ c.args.key.now (codes "efi") c.args.value c.in-efi.is refl

pub returns-in-devicetree : goal.returns-in-devicetree
returns-in-devicetree c = took c.args.self.now _ c.args.key.now (codes "devicetree") c.args.value c.in-devicetree.is refl

pub returns-in-architecture : goal.returns-in-architecture
returns-in-architecture c = took c.args.self.now _ c.args.key.now (codes "architecture") c.args.value c.in-architecture.is refl

pub returns-in_default : goal.returns-in_default
returns-in_default c =
    let d = c.in_default in
    passed c.args.self.now c.args.key.now c.args.value (record {
      title = d.not-title;
      version = d.not-version;
      machine_id = d.not-text;
      sort_key = d.not-text-2;
      options = d.not-options;
      linux = d.not-linux;
      efi = d.not-efi;
      initrd = d.not-initrd;
      devicetree = d.not-devicetree;
      architecture = d.not-architecture;
    })
