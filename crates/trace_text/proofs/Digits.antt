-- What vm_script proves of digits, named here for the readers of numbers.
pub use Rattle.vm_report.proofs.vm_script.Digits.{not_all}
