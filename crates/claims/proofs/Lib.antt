mod Claiming
