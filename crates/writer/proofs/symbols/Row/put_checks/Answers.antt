use Rattle.parity.proofs.Codewords.{of_symbols, take_symbols}
use Rattle.writer.proofs.symbols.Row.put_checks.Goals as goal

pub unreachable-requires : goal.unreachable-requires
unreachable-requires c =
    let ss = c.args.self.now.buf.now in
    let none = of_symbols 81 _ (take_symbols ss c.args.self.now.symbols) in
    let some = c.in_default.ensures in
    cc
