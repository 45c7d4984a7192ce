use Rattle.std.proofs.Common.{◌≡◌, ℕ, List, length, replicate, ◌∙◌, sym, arith}
use Rattle.gpt_table.specs.Gpt.{header_fields}
use Rattle.gpt_table.proofs.Filled.{filled, filled_first, filled_none, filled_whole}
use Rattle.gpt_table.proofs.Headers.{header_run, length-header}
use Rattle.gpt_table.proofs.header.header_bytes.Goals as goal

pub returns : goal.returns
returns c =
    let h = c.args.header.now in
    let sixteen : length h.disk ≡ 16 = omega arith in
    let fields = header_fields h c.args.sum in
    let zeros : List ℕ = replicate 92 0 in
    let all : filled fields zeros ≡ c.put_u32-7.new.room =
    filled_first _ _ _ _ _ c.blank_header-bytes.ensures
    (filled_first _ _ _ _ _ c.put_u32.ensures
    (filled_first _ _ _ _ _ c.put_u32-2.ensures
    (filled_first _ _ _ _ _ c.put_u32-3.ensures
    (filled_first _ _ _ _ _ c.put_u32-4.ensures
    (filled_first _ _ _ _ _ c.put_u64.ensures
    (filled_first _ _ _ _ _ c.put_u64-2.ensures
    (filled_first _ _ _ _ _ c.put_u64-3.ensures
    (filled_first _ _ _ _ _ c.put_u64-4.ensures
    (filled_first _ _ _ _ _ c.put_guid.ensures
    (filled_first _ _ _ _ _ c.put_u64-5.ensures
    (filled_first _ _ _ _ _ c.put_u32-5.ensures
    (filled_first _ _ _ _ _ c.put_u32-6.ensures
    (filled_first _ _ _ _ _ c.put_u32-7.ensures
    (filled_none _)))))))))))))) in
    sym all ∙ filled_whole fields zeros (header_run h c.args.sum sixteen) (length-header h c.args.sum sixteen)
