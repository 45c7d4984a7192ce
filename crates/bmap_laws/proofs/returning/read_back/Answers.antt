use Rattle.bmap_laws.proofs.TheLaw.{reads_back}
use Rattle.bmap_laws.proofs.returning.read_back.Goals as goal

pub returns : goal.returns
returns c = record {
  same = reads_back c.args.map.now c.as_slice.result.now c.in_ok-text.text c.bytes.result.now c.read_bmap.result
      c.requires.map c.as_slice.ensures c.have_digests.ensures c.bytes.ensures c.in_ok-text.ensures.written
      c.read_bmap.ensures.only;
}
