-- What a read call's answer means.
pub mod Intake
